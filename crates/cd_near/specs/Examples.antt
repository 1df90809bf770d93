-- Worked examples, each by computation.
use Rattle.std.specs.Prelude.{◌≡◌, refl, [], ◌∷◌, Float}
use Rattle.std.specs.Float.{binary64}
use Rattle.std.specs.Float.Ieee.{of_bits, add, sub, mul, div, neg, lt, le, eq}
use Rattle.root.specs.Root.{root_of}
use Rattle.rows.specs.Rows.{Rows, rows}
use Rattle.cd_plate.specs.declared.Cd.{Cd}
use Rattle.cd_plate.specs.Plate.{nothing, determinant_of, inverse_of, square_of}
use Rattle.cd_mask.specs.Marks.{marks, ones}
use Rattle.cd_near.specs.Near.{near_marks, near_count}

abbrev one : Float
one = of_bits binary64 0x3ff0_0000_0000_0000

abbrev three : Float
three = of_bits binary64 0x4008_0000_0000_0000

abbrev four : Float
four = of_bits binary64 0x4010_0000_0000_0000

abbrev five : Float
five = of_bits binary64 0x4014_0000_0000_0000

-- the plate that changes nothing
abbrev same : Cd
same = record { cd1_1 = one; cd1_2 = nothing; xi0 = nothing; cd2_1 = nothing; cd2_2 = one; eta0 = nothing }

-- three rows at the origin whose pixels are 5, 0 and more than 5 away
abbrev three_rows : Rows
three_rows = rows (three ∷ nothing ∷ four ∷ []) (four ∷ nothing ∷ four ∷ []) (nothing ∷ nothing ∷ nothing ∷ []) (nothing ∷ nothing ∷ nothing ∷ [])

-- an error of exactly the limit is near
at_the_limit : near_marks three_rows five same ≡ 1 ∷ 1 ∷ 0 ∷ []
unfolding marks determinant_of inverse_of square_of root_of of_bits add sub mul div neg lt le eq
at_the_limit = refl

two_near : near_count three_rows five same ≡ 2
unfolding marks ones determinant_of inverse_of square_of root_of of_bits add sub mul div neg lt le eq
two_near = refl

-- a limit of -0.0 is that of 0.0
no_error : near_marks three_rows (of_bits binary64 0x8000_0000_0000_0000) same ≡ 0 ∷ 1 ∷ 0 ∷ []
unfolding marks determinant_of inverse_of square_of root_of of_bits add sub mul div neg lt le eq
no_error = refl

-- a plate whose determinant is zero has no row near it, whatever the limit
flat : near_count three_rows five (record { cd1_1 = nothing; cd1_2 = nothing; xi0 = nothing; cd2_1 = nothing; cd2_2 = nothing; eta0 = nothing }) ≡ 0
unfolding marks ones determinant_of inverse_of square_of root_of of_bits add sub mul div neg lt le eq
flat = refl
