-- The errors of the rows under a SIP fit, and one clip. Each operation is rounded once, in the Rust's order; sums start at 0.0. Definitions only.
use Rattle.std.specs.Prelude.{Bool, cond, not, ◌&&◌, List, ℕ, zero, suc, ◌+◌, pos, length, get_or, Float}
use Rattle.std.specs.Float.{nan, binary64}
use Rattle.std.specs.Float.Ieee.{of_bits, of_int, lt}
use Rattle.root.specs.Root.{root_of}
use Rattle.rows.specs.Rows.{Rows, count}
use Rattle.cd_mask.specs.Marks.{byte_of, ones}
use Rattle.floats.specs.Rounded.{◌⊕◌, ◌⊖◌, ◌⊗◌, ◌⊘◌}
use Rattle.cd_plate.specs.Plate.{nothing}
use Rattle.cd_plate.specs.Masked.{is_on}
use Rattle.cd_plate.specs.Filled.{filled}
use Rattle.wcs.specs.declared.Wcs.{Wcs}
use Rattle.sip_terms.specs.Terms.{value_of}
use Rattle.sip_sums.specs.declared.Offset.{Offset}
use Rattle.sip_sums.specs.Field.{offset_at, weight_at}
use Rattle.sip_sums.specs.Normal.{plus_if}

-- what is left of an offset in x once the polynomial is taken away
abbrev pub left_x : List Float → Offset → Float
left_x a o = o.du ⊖ value_of a o.u o.v

-- and in y
abbrev pub left_y : List Float → Offset → Float
left_y b o = o.dv ⊖ value_of b o.u o.v

-- the error of a row: the length of both
unfoldable pub error_of : List Float → List Float → Offset → Float
error_of a b o = root_of (left_x a o ⊗ left_x a o ⊕ left_y b o ⊗ left_y b o)

-- the error of the row at a place; +0.0 where it is off
abbrev pub error_at : Rows → Wcs → List ℕ → List Float → List Float → ℕ → Float
error_at r w mask a b k = cond (is_on mask k) (error_of a b (offset_at r w k)) nothing

-- the errors of all rows
abbrev pub errors_of : Rows → Wcs → List ℕ → List Float → List Float → List Float
errors_of r w mask a b = filled (error_at r w mask a b) (count r)

-- the weighted squares, w * e * e from left to right, of the rows that are on among the first k
unfoldable pub weighed_to : List Float → List ℕ → List Float → ℕ → Float
weighed_to snr mask es zero = nothing
weighed_to snr mask es (suc k) = plus_if (is_on mask k) (weighed_to snr mask es k) (weight_at snr k) (get_or es k nan) (get_or es k nan)

-- 2.5
abbrev pub factor : Float
factor = of_bits binary64 0x4004_0000_0000_0000

-- the limit of a clip: 2.5 times the root of the mean weighted square of n rows
abbrev pub limit_of : Float → ℕ → Float
limit_of sum n = factor ⊗ root_of (sum ⊘ of_int binary64 (pos n))

-- the root of the weight of the row at a place
abbrev pub root_at : List Float → ℕ → Float
root_at snr k = root_of (weight_at snr k)

-- and of all rows
abbrev pub roots_of : List Float → List Float
roots_of snr = filled (root_at snr) (length snr)

-- whether the error of a row, times the root of its weight, is past the limit
abbrev pub is_past : List Float → List Float → Float → ℕ → Bool
is_past snr es limit k = lt limit (get_or es k nan ⊗ root_at snr k)

-- how many of the first k rows are turned off
unfoldable pub rejected_to : (ℕ → Bool) → List ℕ → ℕ → ℕ
rejected_to past mask zero = 0
rejected_to past mask (suc k) = rejected_to past mask k + byte_of (is_on mask k && past k)

-- the byte of a row: on where it was, and is not past the limit
abbrev pub byte_at : (ℕ → Bool) → List ℕ → ℕ → ℕ
byte_at past mask k = byte_of (is_on mask k && not (past k))

-- the mask after a clip, and how many rows it turned off
pub record Clipped : Type 0 where
  pub mask : List ℕ
  pub rejected : ℕ

-- the two put together
abbrev pub clipped : List ℕ → ℕ → Clipped
clipped mask rejected = record { mask = mask; rejected = rejected }

-- the clip by a test of the rows
abbrev pub clip_by : (ℕ → Bool) → List ℕ → Clipped
clip_by past mask = clipped (filled (byte_at past mask) (length mask)) (rejected_to past mask (length mask))

-- the limit of the rows that are on
abbrev pub limit_in : List Float → List ℕ → List Float → Float
limit_in snr mask es = limit_of (weighed_to snr mask es (length snr)) (ones mask)

-- one clip
unfoldable pub clip_of : List Float → List ℕ → List Float → Clipped
clip_of snr mask es = clip_by (is_past snr es (limit_in snr mask es)) mask
