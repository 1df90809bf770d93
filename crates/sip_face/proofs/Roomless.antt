-- A call without room for a is refused. Assumes nothing.
use Rattle.sip_terms.specs.declared.Sip.{Sip}
use Rattle.std.specs.Prelude.{Result, Ok, Err}
use mathlib.Core.Path.{◌≡◌, refl}
use Prim.Native.Nat.{ℕ, suc, ◌-◌, ◌≤◌}
use native.Mathlib.Omega.{arith}
use Rattle.answer.specs.Answers.{answer_number}
use Rattle.answer.specs.declared.Refusal.{Refusal}
use Rattle.sip_terms.specs.Terms.{count_to, term_count}
use Rattle.sip_sums.specs.Field.{Field}
use Rattle.sip_tests.specs.Tests.{tests_answer}
use Rattle.sip.specs.Call.{fit_after, sip_after, sip_ended, sip_answer, answer_of}
use Rattle.sip_tests.proofs.Passed.{tested_order}

-- an order from 2 on has terms
some_terms : (order : ℕ) → 2 ≤ order → 3 ≤ term_count order
unfolding count_to
some_terms order h =
    let e : order - 1 ≡ suc (order - 2) = omega arith in
    rw e (omega arith)

-- an answer that is refused
pub record Refusing (r : Result Sip Refusal) : Type 0 where
  pub why : Refusal
  pub is : r ≡ Err why

-- so is that of a call without room for a
pub roomless : (f : Field) (order b : ℕ) → Refusing (sip_answer f order 0 b)
roomless f order b = go (tests_answer f order 0 b) refl
  where
    go : (t : Result Unit Refusal) → tests_answer f order 0 b ≡ t → Refusing (fit_after t (sip_after f (sip_ended f order)))
    go (Ok tt) e =
        let o = tested_order f order 0 b e in
        absurd (omega (arith, some_terms order o.least, o.room_a))
    go (Err why) e = record { why = why; is = refl }

-- the number of a fit, either way
pub number_told : (r : Result Sip Refusal) → answer_number r ≡ answer_number (answer_of r)
number_told (Ok s) = refl
number_told (Err why) = refl
