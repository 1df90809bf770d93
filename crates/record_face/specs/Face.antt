-- What `write_record` answers and writes when its numbers come as lists. Definitions only.
use Rattle.answer.specs.declared.Refusal.{Refusal}
use Rattle.std.specs.Prelude.{cond, not, ◌||◌, List, ℕ, ltb, eqb, length, get_or, Float, Result, Err}
use Rattle.std.specs.Float.{nan}
use Rattle.answer.specs.declared.Refusal.TheVariants as refusal
use Rattle.wcs.specs.Wcs.{wcs_in}
use Rattle.sip_terms.specs.declared.Sip.{Sip}
use Rattle.record_lines.specs.Lines.{Solution}
use Rattle.record.specs.Record.{solution, record_done}

-- what a fit hands back, from the rows used and three sums
abbrev pub sip_in : ℕ → List Float → Sip
sip_in rows sums = record { rows_used = rows; linear_rms = get_or sums 0 nan; rms = get_or sums 1 nan; wrms = get_or sums 2 nan }

-- the solution whose record is written
abbrev pub solution_in : ℕ → List Float → ℕ → List Float → List Float → List Float → Solution
solution_in rows wcs order a b sums = solution (sip_in rows sums) (wcs_in wcs) order a b

-- the answer in so much room: with another length of WCS or sums number 1 and then 2; else numbers 1, 2, 3, 5 and 7
abbrev pub record_face : ℕ → List Float → ℕ → List Float → List Float → List Float → ℕ → Result Unit Refusal
record_face rows wcs order a b sums room =
    cond (not (eqb (length wcs) 6) || not (eqb (length sums) 3))
    (cond (ltb 100 rows) (Err refusal.Count) (Err refusal.Lengths))
    (record_done (solution_in rows wcs order a b sums) room)
