-- What the inner steps give, which take the values and the roots from lists. Definitions only.
use Rattle.std.specs.Prelude.{Bool, cond, List, ℕ, length, get_or, Float}
use Rattle.std.specs.Float.{nan}
use Rattle.std.specs.Float.Ieee.{lt}
use Rattle.root.specs.Root.{root_of}
use Rattle.rows.specs.Rows.{Rows}
use Rattle.floats.specs.Rounded.{◌⊕◌, ◌⊖◌, ◌⊗◌}
use Rattle.cd_plate.specs.Plate.{nothing}
use Rattle.cd_plate.specs.Masked.{is_on}
use Rattle.cd_plate.specs.Filled.{filled}
use Rattle.wcs.specs.declared.Wcs.{Wcs}
use Rattle.sip_sums.specs.declared.Offset.{Offset}
use Rattle.sip_sums.specs.Field.{offset_at}
use Rattle.sip_clip.specs.Clip.{rejected_to, byte_at}

-- the length of what x and y leave of an offset
abbrev pub error_left : Offset → Float → Float → Float
error_left o x y = root_of ((o.du ⊖ x) ⊗ (o.du ⊖ x) ⊕ (o.dv ⊖ y) ⊗ (o.dv ⊖ y))

-- the error of the row at a place; +0.0 where it is off
abbrev pub error_in : Rows → Wcs → List ℕ → List Float → List Float → ℕ → Float
error_in r w mask x y k = cond (is_on mask k) (error_left (offset_at r w k) (get_or x k nan) (get_or y k nan)) nothing

-- whether a row is past the limit
abbrev pub past_in : List Float → List Float → Float → ℕ → Bool
past_in es roots limit k = lt limit (get_or es k nan ⊗ get_or roots k nan)

-- how many of the first k rows are turned off
abbrev pub rejected_in : List ℕ → List Float → List Float → Float → ℕ → ℕ
rejected_in mask es roots limit k = rejected_to (past_in es roots limit) mask k

-- the mask after that
abbrev pub mask_in : List ℕ → List Float → List Float → Float → List ℕ
mask_in mask es roots limit = filled (byte_at (past_in es roots limit) mask) (length mask)
