-- The rows as a SIP fit takes them. Each operation is rounded once, in the Rust's order. Definitions only.
use Rattle.std.specs.Prelude.{List, ℕ, get_or, Float}
use Rattle.std.specs.Float.{nan}
use Rattle.std.specs.Float.Ieee.{neg}
use Rattle.rows.specs.Rows.{Rows, row_at}
use Rattle.rows.specs.declared.Row.{Row}
use Rattle.floats.specs.Rounded.{◌⊕◌, ◌⊖◌, ◌⊗◌, ◌⊘◌}
use Rattle.cd_plate.specs.Plate.{determinant_of}
use Rattle.wcs.specs.Wcs.{plate_of}
use Rattle.wcs.specs.declared.Wcs.{Wcs}
use Rattle.sip_sums.specs.declared.Offset.{Offset}

-- what a fit reads: the rows, the snr of each, and the WCS
pub record Field : Type 0 where
  pub rows : Rows
  pub snr : List Float
  pub wcs : Wcs

-- the three put together
abbrev pub field : Rows → List Float → Wcs → Field
field r snr w = record { rows = r; snr = snr; wcs = w }

-- where the WCS puts a row's point: its ideal x
abbrev pub ideal_x : Wcs → Row → Float
ideal_x w row = (w.cd2_2 ⊗ row.xi ⊖ w.cd1_2 ⊗ row.eta) ⊘ determinant_of (plate_of w) ⊕ w.crpix1

-- and its ideal y: a factor is negated, and then multiplied
abbrev pub ideal_y : Wcs → Row → Float
ideal_y w row = (neg w.cd2_1 ⊗ row.xi ⊕ w.cd1_1 ⊗ row.eta) ⊘ determinant_of (plate_of w) ⊕ w.crpix2

-- a row seen from the reference pixel, and what its pixel is away from its ideal place: pixel minus ideal
unfoldable pub offset_of : Wcs → Row → Offset
offset_of w row = record {
  u = row.px ⊖ w.crpix1;
  v = row.py ⊖ w.crpix2;
  du = row.px ⊖ ideal_x w row;
  dv = row.py ⊖ ideal_y w row;
}

-- that of the row at a place
abbrev pub offset_at : Rows → Wcs → ℕ → Offset
offset_at r w k = offset_of w (row_at r k)

-- a row's weight: its snr squared
abbrev pub weight_at : List Float → ℕ → Float
weight_at snr k = get_or snr k nan ⊗ get_or snr k nan
