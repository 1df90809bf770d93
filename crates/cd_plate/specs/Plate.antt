-- The six numbers of a CD plate, their inverse, and the error of a row. Each operation is rounded once, in the Rust's order. Definitions only.
use Rattle.std.specs.Prelude.{Bool, ◌&&◌, Float}
use Rattle.std.specs.Float.{binary64}
use Rattle.std.specs.Float.Ieee.{of_bits, neg}
use Rattle.floats.specs.Rounded.{◌⊕◌, ◌⊖◌, ◌⊗◌, ◌⊘◌}
use Rattle.root.specs.Root.{root_of}
use Rattle.domain.specs.Domain.{is_finite}
use Rattle.rows.specs.declared.Row.{Row}
use Rattle.cd_plate.specs.declared.Cd.{Cd}
use Rattle.cd_plate.specs.declared.Inverse.{Inverse}

-- 0.0
abbrev pub nothing : Float
nothing = of_bits binary64 0

-- 1e-30, the least determinant
abbrev pub least_determinant : Float
least_determinant = of_bits binary64 0x39b4_484b_feeb_c2a0

-- the determinant of the four factors
unfoldable pub determinant_of : Cd → Float
determinant_of cd = cd.cd1_1 ⊗ cd.cd2_2 ⊖ cd.cd1_2 ⊗ cd.cd2_1

-- each of the six numbers is finite
unfoldable pub is_cd : Cd → Bool
is_cd cd =
    (is_finite cd.cd1_1 && (is_finite cd.cd1_2 && is_finite cd.xi0)) && (is_finite cd.cd2_1 && (is_finite cd.cd2_2 && is_finite cd.eta0))

-- the inverse of the factors, beside what is added: a factor is negated, and then divided
unfoldable pub inverse_of : Cd → Inverse
inverse_of cd =
    let det = determinant_of cd in
    record {
      i00 = cd.cd2_2 ⊘ det;
      i01 = neg cd.cd1_2 ⊘ det;
      i10 = neg cd.cd2_1 ⊘ det;
      i11 = cd.cd1_1 ⊘ det;
      xi0 = cd.xi0;
      eta0 = cd.eta0;
    }

-- what a row's pixel is away in x from where its point of the plane goes
abbrev pub missed_x : Inverse → Row → Float
missed_x v row = row.px ⊖ (v.i00 ⊗ (row.xi ⊖ v.xi0) ⊕ v.i01 ⊗ (row.eta ⊖ v.eta0))

-- and in y
abbrev pub missed_y : Inverse → Row → Float
missed_y v row = row.py ⊖ (v.i10 ⊗ (row.xi ⊖ v.xi0) ⊕ v.i11 ⊗ (row.eta ⊖ v.eta0))

-- the squared error of a row
unfoldable pub square_of : Inverse → Row → Float
square_of v row = missed_x v row ⊗ missed_x v row ⊕ missed_y v row ⊗ missed_y v row

-- the error of a row
abbrev pub error_of : Inverse → Row → Float
error_of v row = root_of (square_of v row)
