-- What a SIP fit says of itself. Each operation is rounded once, in the Rust's order; sums start at 0.0. Definitions only.
use Rattle.std.specs.Prelude.{Bool, true, false, cond, List, ℕ, zero, suc, eqb, pos, length, get_or, Float}
use Rattle.std.specs.Float.{nan, binary64}
use Rattle.std.specs.Float.Ieee.{of_int, lt}
use Rattle.root.specs.Root.{root_of}
use Rattle.rows.specs.Rows.{Rows, count}
use Rattle.cd_mask.specs.Marks.{ones}
use Rattle.floats.specs.Rounded.{◌⊕◌, ◌⊗◌, ◌⊘◌}
use Rattle.cd_plate.specs.Plate.{nothing}
use Rattle.cd_plate.specs.Masked.{is_on}
use Rattle.wcs.specs.declared.Wcs.{Wcs}
use Rattle.sip_terms.specs.declared.Sip.{Sip}
use Rattle.sip_sums.specs.declared.Offset.{Offset}
use Rattle.sip_sums.specs.Field.{offset_at, weight_at}
use Rattle.sip_rms.specs.declared.Totals.{Totals}

-- the root of the mean of n numbers; 0.0 where there is none
abbrev pub root_mean : Float → ℕ → Float
root_mean sum n = cond (eqb n 0) nothing (root_of (sum ⊘ of_int binary64 (pos n)))

-- the root of a weighted mean; 0.0 where the weights' sum is not above 0
abbrev pub root_share : Float → Float → Float
root_share sum weights = cond (lt nothing weights) (root_of (sum ⊘ weights)) nothing

-- a sum with the square of one offset more
abbrev pub with_offset : Float → Offset → Float
with_offset sum o = sum ⊕ (o.du ⊗ o.du ⊕ o.dv ⊗ o.dv)

-- the squares of the offsets of the first k rows
unfoldable pub linear_to : Rows → Wcs → ℕ → Float
linear_to r w zero = nothing
linear_to r w (suc k) = with_offset (linear_to r w k) (offset_at r w k)

-- the root mean square before any fit
abbrev pub linear_rms_of : Rows → Wcs → Float
linear_rms_of r w = root_mean (linear_to r w (count r)) (count r)

-- the sums of no error
abbrev pub no_errors : Totals
no_errors = record { squares = nothing; weights = nothing; weighed = nothing }

-- with one error more: w * e * e goes from left to right
abbrev pub with_error : Totals → Float → Float → Totals
with_error t w e = record { squares = t.squares ⊕ e ⊗ e; weights = t.weights ⊕ w; weighed = t.weighed ⊕ w ⊗ e ⊗ e }

-- a row that is off adds nothing
abbrev pub with_error_if : Bool → Totals → Float → Float → Totals
with_error_if true t w e = with_error t w e
with_error_if false t w e = t

-- the sums over the rows that are on among the first k
unfoldable pub totals_to : List Float → List ℕ → List Float → ℕ → Totals
totals_to snr mask es zero = no_errors
totals_to snr mask es (suc k) = with_error_if (is_on mask k) (totals_to snr mask es k) (weight_at snr k) (get_or es k nan)

-- and over all of them
abbrev pub totals_of : List Float → List ℕ → List Float → Totals
totals_of snr mask es = totals_to snr mask es (length snr)

-- the numbers of a fit that ends with this mask and these errors
unfoldable pub sip_of : Float → List Float → List ℕ → List Float → Sip
sip_of linear snr mask es = record {
  rows_used = ones mask;
  linear_rms = linear;
  rms = root_mean (totals_of snr mask es).squares (ones mask);
  wrms = root_share (totals_of snr mask es).weighed (totals_of snr mask es).weights;
}
