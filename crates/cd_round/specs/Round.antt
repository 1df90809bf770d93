-- The rows of one round of the weighted clip. Each operation is rounded once, in the Rust's order; the sum starts at 0.0. Definitions only.
use Rattle.std.specs.Prelude.{Bool, false, cond, ◌&&◌, ◌||◌, List, ℕ, zero, suc, pos, length, get_or, Float}
use Rattle.std.specs.Float.{nan, binary64}
use Rattle.std.specs.Float.Ieee.{of_bits, of_int, lt}
use Rattle.floats.specs.Rounded.{◌⊕◌, ◌⊗◌, ◌⊘◌}
use Rattle.root.specs.Root.{root_of}
use Rattle.cd_plate.specs.Plate.{nothing}
use Rattle.cd_plate.specs.Masked.{is_on}
use Rattle.cd_plate.specs.Filled.{filled}
use Rattle.cd_round.specs.declared.Clip.{Clip}

-- 3.0: how many times the weighted rms the limit is
abbrev pub factor : Float
factor = of_bits binary64 0x4008_0000_0000_0000

-- the root of the weight at a place
abbrev pub root_at : List Float → ℕ → Float
root_at ws k = root_of (get_or ws k nan)

-- the roots of the weights
abbrev pub roots_of : List Float → List Float
roots_of ws = filled (root_at ws) (length ws)

-- the sum of w * e * e, which goes from left to right, over those of the first k rows that are on
unfoldable pub squares_to : List Float → List Float → List ℕ → ℕ → Float
squares_to errors weights mask zero = nothing
squares_to errors weights mask (suc k) =
    let sum = squares_to errors weights mask k in
    let e = get_or errors k nan in
    cond (is_on mask k) (sum ⊕ get_or weights k nan ⊗ e ⊗ e) sum

-- what a round rejects by: three times the root of that sum over the number of rows that are on
unfoldable pub clip_of : Float → ℕ → Clip
clip_of sum on = record { limit = factor ⊗ root_of (sum ⊘ of_int binary64 (pos on)) }

-- a row is rejected: it is on, and its error times its weight's root is above the limit
abbrev pub is_rejected : List Float → List Float → List ℕ → Clip → ℕ → Bool
is_rejected errors roots mask clip k = is_on mask k && lt clip.limit (get_or errors k nan ⊗ get_or roots k nan)

-- one of the first k rows is rejected
unfoldable pub any_rejected : List Float → List Float → List ℕ → Clip → ℕ → Bool
any_rejected errors roots mask clip zero = false
any_rejected errors roots mask clip (suc k) = any_rejected errors roots mask clip k || is_rejected errors roots mask clip k

-- the byte of a row after the round: off where it is rejected, and else as it was
abbrev pub byte_left : List Float → List Float → List ℕ → Clip → ℕ → ℕ
byte_left errors roots mask clip k = cond (is_rejected errors roots mask clip k) 0 (get_or mask k 0)

-- the mask after the round
abbrev pub mask_left : List Float → List Float → List ℕ → Clip → List ℕ
mask_left errors roots mask clip = filled (byte_left errors roots mask clip) (length mask)
