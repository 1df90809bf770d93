-- What the inner steps give, which sum the equations of both axes at once. Definitions only.
use Rattle.std.specs.Prelude.{◌≡◌, Bool, cond, List, ℕ, zero, suc, ◌+◌, ◌*◌, ◌<◌, ltb, eqb, length, get_or, Float}
use Rattle.std.specs.Float.{nan}
use Rattle.rows.specs.Rows.{Rows, count}
use Rattle.floats.specs.Rounded.{◌⊕◌, ◌⊗◌}
use Rattle.cd_plate.specs.Plate.{nothing}
use Rattle.cd_plate.specs.Masked.{is_on}
use Rattle.wcs.specs.declared.Wcs.{Wcs}
use Rattle.elimination_rows.specs.Matrix.{Matrix}
use Rattle.elimination_rows.specs.Holds.{Holds}
use Rattle.sip_terms.specs.Terms.{basis_of}
use Rattle.sip_sums.specs.declared.Offset.{Offset}
use Rattle.sip_sums.specs.Field.{offset_at, weight_at}
use Rattle.sip_sums.specs.Normal.{plus_if}

-- a row's number in a column of both axes: the basis of each term, then du, then dv
abbrev pub line_at : ℕ → Offset → ℕ → Float
line_at n o j = cond (ltb j n) (basis_of o.u o.v j) (cond (eqb j n) o.du o.dv)

-- each number of `new` is that of `old` and f times that of p
abbrev pub More : List Float → List Float → Float → List Float → Type 0
More old p f new = (k : ℕ) → k < length old → get_or new k nan ≡ get_or old k nan ⊕ f ⊗ get_or p k nan

-- a matrix with a line of weight w more
abbrev pub with_line : Matrix → Float → List Float → Matrix
with_line m w line i j = m i j ⊕ w ⊗ get_or line i nan ⊗ get_or line j nan

-- the same for a row that is on
abbrev pub with_line_if : Bool → Matrix → Float → List Float → Matrix
with_line_if on m w line i j = plus_if on (m i j) w (get_or line i nan) (get_or line j nan)

-- a table that has the line of every row
pub record Lines (r : Rows) (w : Wcs) (n : ℕ) (lines : List Float) : Type 0 where
  pub long : length lines ≡ count r * (n + 2)
  pub held : Holds lines (count r) (n + 2) (λ k j. line_at n (offset_at r w k) j)

-- the equations of both axes over the first k lines of a table, the right sides in the last two columns
unfoldable pub sums_in : Matrix → List Float → List ℕ → ℕ → Matrix
sums_in lines snr mask zero i j = nothing
sums_in lines snr mask (suc k) i j = plus_if (is_on mask k) (sums_in lines snr mask k i j) (weight_at snr k) (lines k i) (lines k j)
