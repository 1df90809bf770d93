-- The tests of a SIP fit's input, in the order of this call. Definitions only.
use Rattle.answer.specs.declared.Refusal.{Refusal}
use Rattle.std.specs.Prelude.{Bool, cond, not, ◌&&◌, ◌||◌, ℕ, ltb, leb, eqb, length, Result, Ok, Err}
use Rattle.std.specs.Float.Ieee.{lt}
use Rattle.floats.specs.Magnitude.{magnitude_of}
use Rattle.domain.specs.Domain.{is_snr, every}
use Rattle.answer.specs.Answers.{first}
use Rattle.answer.specs.declared.Refusal.TheVariants as refusal
use Rattle.rows.specs.Rows.{count, few_rows, even_rows, position_rows}
use Rattle.cd_plate.specs.Plate.{least_determinant, determinant_of}
use Rattle.wcs.specs.Wcs.{plate_of, is_wcs}
use Rattle.wcs.specs.declared.Wcs.{Wcs}
use Rattle.sip_terms.specs.Terms.{term_count}
use Rattle.sip_sums.specs.Field.{Field}

-- no list has more than 100 rows
abbrev pub few_field : Field → Bool
few_field f = few_rows f.rows && leb (length f.snr) 100

-- the lists are of one length
abbrev pub even_field : Field → Bool
even_field f = even_rows f.rows && eqb (length f.snr) (count f.rows)

-- every number is a position, every snr one, the reference pixel a position, and the factors finite
abbrev pub good_field : Field → Bool
good_field f = (position_rows f.rows && every is_snr f.snr) && is_wcs f.wcs

-- the tests of what is read: number 1, 2 or 3, or done
unfoldable pub field_answer : Field → Result Unit Refusal
field_answer f =
    cond (not (few_field f)) (Err refusal.Count)
    (cond (not (even_field f)) (Err refusal.Lengths)
    (cond (not (good_field f)) (Err refusal.Value)
    (Ok tt)))

-- an order that is not fitted: one outside 2 to 5
abbrev pub no_order : ℕ → Bool
no_order order = ltb order 2 || ltb 5 order

-- the tests that follow, of so many rows and places: 5 for the order, 6 for fewer than 6 rows or than terms, 7 for the room, 8 for a determinant
-- whose magnitude is not above 1e-30 (NaN too)
unfoldable pub order_answer : ℕ → Wcs → ℕ → ℕ → ℕ → Result Unit Refusal
order_answer rows w order a b =
    cond (no_order order) (Err refusal.Order)
    (cond (ltb rows 6 || ltb rows (term_count order)) (Err refusal.Rows)
    (cond (ltb a (term_count order) || ltb b (term_count order)) (Err refusal.Room)
    (cond (lt least_determinant (magnitude_of (determinant_of (plate_of w)))) (Ok tt) (Err refusal.Degenerate))))

-- all tests before the fit, into lists of so many places
abbrev pub tests_answer : Field → ℕ → ℕ → ℕ → Result Unit Refusal
tests_answer f order a b = first (field_answer f) (order_answer (count f.rows) f.wcs order a b)
