-- The normal equations of an axis, summed over the rows that are on. Each operation is rounded once, in the Rust's order; sums start at 0.0. Definitions only.
use Rattle.std.specs.Prelude.{Bool, cond, List, ℕ, zero, suc, ltb, Float}
use Rattle.rows.specs.Rows.{count}
use Rattle.floats.specs.Rounded.{◌⊕◌, ◌⊗◌}
use Rattle.cd_plate.specs.Plate.{nothing}
use Rattle.cd_plate.specs.Masked.{is_on}
use Rattle.elimination_rows.specs.Matrix.{Matrix}
use Rattle.sip_terms.specs.Terms.{basis_of}
use Rattle.sip_sums.specs.declared.Offset.{Offset}
use Rattle.sip_sums.specs.Field.{Field, offset_at, weight_at}

-- what is fitted on the axis of x
abbrev pub x_of : Offset → Float
x_of o = o.du

-- and on that of y
abbrev pub y_of : Offset → Float
y_of o = o.dv

-- a row's number in a column of the equations of n terms: the basis of each term, and then what is fitted
abbrev pub column_of : (Offset → Float) → ℕ → Offset → ℕ → Float
column_of axis n o j = cond (ltb j n) (basis_of o.u o.v j) (axis o)

-- a sum with one row more: w * x * y goes from left to right; a row that is off adds nothing
abbrev pub plus_if : Bool → Float → Float → Float → Float → Float
plus_if on s w x y = cond on (s ⊕ w ⊗ x ⊗ y) s

-- the number in row i and column j of the equations, over the first k rows
unfoldable pub entry_to : Field → List ℕ → (Offset → ℕ → Float) → ℕ → ℕ → ℕ → Float
entry_to f mask column i j zero = nothing
entry_to f mask column i j (suc k) =
    let o = offset_at f.rows f.wcs k in
    plus_if (is_on mask k) (entry_to f mask column i j k) (weight_at f.snr k) (basis_of o.u o.v i) (column o j)

-- the equations of an axis in n terms, with its right side in column n
abbrev pub equations_of : Field → List ℕ → (Offset → Float) → ℕ → Matrix
equations_of f mask axis n i j = entry_to f mask (column_of axis n) i j (count f.rows)
