-- A CD as six numbers in a list. Definitions only.
use Rattle.std.specs.Prelude.{List, [], ◌∷◌, get_or, Float}
use Rattle.std.specs.Float.{nan}
use Rattle.cd_plate.specs.declared.Cd.{Cd}

-- the CD that six numbers make
abbrev pub cd_in : List Float → Cd
cd_in l = record {
  cd1_1 = get_or l 0 nan;
  cd1_2 = get_or l 1 nan;
  xi0 = get_or l 2 nan;
  cd2_1 = get_or l 3 nan;
  cd2_2 = get_or l 4 nan;
  eta0 = get_or l 5 nan;
}

-- the six numbers of a CD
abbrev pub cd_numbers : Cd → List Float
cd_numbers m = m.cd1_1 ∷ m.cd1_2 ∷ m.xi0 ∷ m.cd2_1 ∷ m.cd2_2 ∷ m.eta0 ∷ []
