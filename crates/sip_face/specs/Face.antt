-- What `fit_sip` answers and writes when the result goes into what is lent. Definitions only.
use Rattle.sip_terms.specs.declared.Sip.{Sip}
use Rattle.answer.specs.declared.Refusal.{Refusal}
use Rattle.std.specs.Prelude.{cond, List, [], ℕ, ltb, Float, Result, Ok, Err}
use Rattle.rows.specs.Rows.{Rows}
use Rattle.errors_face.specs.Face.{of_six}
use Rattle.wcs.specs.Wcs.{wcs_in}
use Rattle.sip_terms.specs.Sums.{sums_of}
use Rattle.sip_sums.specs.Field.{Field, field}
use Rattle.sip_tests.specs.Tests.{few_field}
use Rattle.sip.specs.Call.{sip_answer, answer_of}

-- the rows that a fit used; a refusal has none
abbrev pub used_in : Result Sip Refusal → ℕ
used_in (Ok s) = s.rows_used
used_in (Err why) = 0

-- its sums; a refusal has none
abbrev pub sums_in : Result Sip Refusal → List Float
sums_in (Ok s) = sums_of s
sums_in (Err why) = []

-- number 7 stands in its place of the order: a call without room for its three sums is one without room for a
abbrev pub sip_told : Field → ℕ → ℕ → ℕ → ℕ → Result Sip Refusal
sip_told f order a b sums = sip_answer f order (cond (ltb sums 3) 0 a) b

-- the answer of `fit_sip` under a WCS of six numbers, into lists of so many places: numbers 1, 2, 3, 5, 6, 7 and 8
abbrev pub sip_face : Rows → List Float → List Float → ℕ → ℕ → ℕ → ℕ → Result Unit Refusal
sip_face r snr wcs order a b sums =
    of_six wcs (few_field (field r snr (wcs_in wcs))) (answer_of (sip_told (field r snr (wcs_in wcs)) order a b sums))
