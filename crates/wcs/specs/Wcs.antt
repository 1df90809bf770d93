-- A WCS: from six numbers, as a plate, and which ones are taken. Definitions only.
use Rattle.std.specs.Prelude.{Bool, ◌&&◌, List, [], ◌∷◌, get_or, Float}
use Rattle.std.specs.Float.{nan}
use Rattle.domain.specs.Domain.{is_position}
use Rattle.cd_plate.specs.declared.Cd.{Cd}
use Rattle.cd_plate.specs.Plate.{nothing, is_cd}
use Rattle.wcs.specs.declared.Wcs.{Wcs}

-- the WCS that six numbers make
unfoldable pub wcs_in : List Float → Wcs
wcs_in l = record {
  crpix1 = get_or l 0 nan;
  crpix2 = get_or l 1 nan;
  cd1_1 = get_or l 2 nan;
  cd1_2 = get_or l 3 nan;
  cd2_1 = get_or l 4 nan;
  cd2_2 = get_or l 5 nan;
}

-- its six numbers
abbrev pub wcs_numbers : Wcs → List Float
wcs_numbers w = w.crpix1 ∷ w.crpix2 ∷ w.cd1_1 ∷ w.cd1_2 ∷ w.cd2_1 ∷ w.cd2_2 ∷ []

-- the factors as a plate that adds nothing
abbrev pub plate_of : Wcs → Cd
plate_of w = record { cd1_1 = w.cd1_1; cd1_2 = w.cd1_2; xi0 = nothing; cd2_1 = w.cd2_1; cd2_2 = w.cd2_2; eta0 = nothing }

-- the reference pixel is a position, and each factor is finite
unfoldable pub is_wcs : Wcs → Bool
is_wcs w = (is_position w.crpix1 && is_position w.crpix2) && is_cd (plate_of w)
