-- The numbers of the answers: 1 exactly for n above 100; else 4 exactly for a state that is neither done nor four rising places below n. Assumes nothing.
use Rattle.answer.specs.Answers.{answer_number}
use Rattle.std.specs.Prelude.{Ok, Err}
use mathlib.Core.Path.{◌≡◌, refl}
use mathlib.Core.Bool.{Bool, true, false, cond, ◌||◌}
use Prim.Native.Nat.{ℕ}
use lib.Dec.{ltb}
use Rattle.answer.specs.declared.Refusal.TheVariants.{Count, Place}
use Rattle.quad_combinations.specs.declared.Set.{Set}
use Rattle.quad_combinations.specs.declared.State.{State}
use Rattle.quad_combinations.specs.declared.Step.{Step}
use Rattle.quad_combinations.specs.Combinations.{first_of, is_rising, start_of, after_of, step_of, step_number}

pub start_number_lem : (n : ℕ) → answer_number (start_of n) ≡ cond (ltb 100 n) 1 0
unfolding start_of
start_number_lem n = go (ltb 100 n) (first_of n)
  where
    go : (p : Bool) (s : State) → answer_number (cond p (Err Count) (Ok s)) ≡ cond p 1 0
    go true s = refl
    go false s = refl

pub step_number_lem : (s : State) → step_number (step_of s) ≡ cond (ltb 100 s.n) 1 (cond (s.done || is_rising s.n s.set) 0 4)
unfolding step_of
step_number_lem s = go (ltb 100 s.n) s.done (is_rising s.n s.set) s.set s (after_of s.n s.set)
  where
    go : (p q r : Bool) (x : Set) (t u : State) → step_number (cond p (Err Count) (cond q (Ok (Step.Ended t)) (cond r (Ok (Step.Given x u)) (Err Place)))) ≡ cond p 1 (cond (q || r) 0 4)
    go true q r x t u = refl
    go false true r x t u = refl
    go false false true x t u = refl
    go false false false x t u = refl
