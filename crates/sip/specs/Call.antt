-- `fit_sip` as a call: its answer, and what stands in the lent lists. Definitions only.
use Rattle.sip_terms.specs.declared.Sip.{Sip}
use Rattle.answer.specs.declared.Refusal.{Refusal}
use Rattle.std.specs.Prelude.{List, [], ℕ, Float, Result, Ok, Err}
use Rattle.answer.specs.Answers.{number_of}
use Rattle.sip_terms.specs.Terms.{term_count}
use Rattle.sip_sums.specs.Field.{Field}
use Rattle.sip_tests.specs.Tests.{tests_answer}
use Rattle.sip_clip.specs.Clip.{errors_of}
use Rattle.sip_rms.specs.Rms.{linear_rms_of, sip_of}
use Rattle.sip_rounds.specs.Rounds.{Ended, Fitted, Failed, rounds_of}

-- the answer of rounds that end so: the numbers of the fit, or 6 or 8
abbrev pub sip_after : Field → Ended → Result Sip Refusal
sip_after f (Fitted mask a b) = Ok (sip_of (linear_rms_of f.rows f.wcs) f.snr mask (errors_of f.rows f.wcs mask a b))
sip_after f (Failed why) = Err why

-- the coefficients of x, where there are any
abbrev pub coefficients_a : Ended → List Float
coefficients_a (Fitted mask a b) = a
coefficients_a (Failed why) = []

-- and those of y
abbrev pub coefficients_b : Ended → List Float
coefficients_b (Fitted mask a b) = b
coefficients_b (Failed why) = []

-- the answer of a fit after its tests
abbrev pub fit_after : Result Unit Refusal → Result Sip Refusal → Result Sip Refusal
fit_after (Ok tt) f = f
fit_after (Err why) f = Err why

-- the rounds of an order
abbrev pub sip_ended : Field → ℕ → Ended
sip_ended f order = rounds_of f (term_count order)

-- the answer of `fit_sip`, into lists of so many places: numbers 1, 2, 3, 5, 6, 7 and 8, or the numbers of the fit
abbrev pub sip_answer : Field → ℕ → ℕ → ℕ → Result Sip Refusal
sip_answer f order a b = fit_after (tests_answer f order a b) (sip_after f (sip_ended f order))

-- what is written into a when it is done
abbrev pub sip_a : Field → ℕ → List Float
sip_a f order = coefficients_a (sip_ended f order)

-- and into b
abbrev pub sip_b : Field → ℕ → List Float
sip_b f order = coefficients_b (sip_ended f order)

-- whether a fit is done
abbrev pub answer_of : Result Sip Refusal → Result Unit Refusal
answer_of (Ok sip) = Ok tt
answer_of (Err why) = Err why
