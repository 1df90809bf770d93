-- What the tests let through, and what the solve then comes to. Assumes nothing.
use Rattle.std.specs.Prelude.{Ok, Err, Result}
use Prim.Native.Nat.{ℕ, ◌+◌, ◌*◌, ◌≤◌}
use mathlib.Core.Path.{◌≡◌, refl, sym, ◌∙◌}
use mathlib.Core.Bool.{Bool, true, false, cond, ◌&&◌, true≢false}
use mathlib.Core.List.{List, ◌++◌}
use native.Mathlib.Nat.{mul-le-mul_right, mul-le-mul_left, le_trans}
use native.Mathlib.Omega.{arith}
use lib.Dec.{ltb, eqb}
use lib.ListN.{drop}
use lib.Ieee.{Float}
use borrow.Author.Tests.{ltb-false, eqb-true}
use Rattle.answer.specs.Answers.{room_for, written}
use Rattle.answer.specs.declared.Refusal.TheVariants.{Count, Lengths, Room}
use Rattle.answer.proofs.Passed.{passed}
use Rattle.elimination_rows.specs.Matrix.{cells}
use Rattle.elimination_rows.specs.Holds.{Holds}
use Rattle.elimination.specs.Elimination.{eliminated, unknowns, Solved, Unknowns, Singular}
use Rattle.elimination.specs.Agrees.{Agrees}
use Rattle.elimination.specs.declared.NoPivot.{NoPivot}
use Rattle.elimination.proofs.Solved.{solved, singular, solution_held}
use Rattle.elimination.proofs.Alike.{unknowns_long}
use Rattle.cd_normal.specs.Normal.{system, normal_solved, unknowns_of, tests_answer}

pub square : (n : ℕ) → n ≤ 54 → n * n ≤ 2916
square n h = le_trans (mul-le-mul_right n h) (mul-le-mul_left 54 h)

both_true : (a b : Bool) → (a && b) ≡ true → (a ≡ true) × (b ≡ true)
both_true true true h = (refl, refl)
both_true true false h = (refl, h)
both_true false b h = absurd (true≢false (sym h))

-- lengths that passed the tests
pub tested : (a b n x : ℕ) → tests_answer a b n x ≡ Ok tt → (a ≡ n * n) × (b ≡ n) × (n ≤ 54) × (n ≤ x)
unfolding tests_answer
tested a b n x e =
    let p = passed (ltb 54 n) Count _ e in
    let q = middle (eqb a (n * n) && eqb b n) p.1 in
    let t = both_true (eqb a (n * n)) (eqb b n) q.0 in
    let r = passed (ltb x n) Room (Ok tt) q.1 in
    (eqb-true a (n * n) t.0, eqb-true b n t.1, ltb-false 54 n p.0, ltb-false x n r.0)
  where
    middle : (c : Bool) → cond c (room_for n x) (Err Lengths) ≡ Ok tt → (c ≡ true) × (room_for n x ≡ Ok tt)
    middle true e = (refl, e)
    middle false e = let z : ◌≡◌ {A = ℕ} 0 1 = cc in absurd (omega arith)

module _ (a b mid l : List Float) (n : ℕ) (h : Holds mid n (n + 1) (system a b n)) where
  pub stopped : (r : Result Unit NoPivot) (col : ℕ) → r ≡ Err (record { col = col }) → Agrees (eliminated (cells mid (n + 1)) n) r l n (n + 1) → normal_solved a b n ≡ Singular col
  unfolding normal_solved
  stopped r col e g =
      sym (solution_held (system a b n) mid n (n + 1) n (omega arith) (omega arith) h) ∙ singular (cells mid (n + 1)) l n (n + 1) n col (rw e at g)

  pub done : (r : Result Unit NoPivot) → r ≡ Ok tt → Agrees (eliminated (cells mid (n + 1)) n) r l n (n + 1) → normal_solved a b n ≡ Unknowns (unknowns (cells l (n + 1)) n n)
  unfolding normal_solved
  done r e g =
      sym (solution_held (system a b n) mid n (n + 1) n (omega arith) (omega arith) h) ∙ solved (cells mid (n + 1)) l n (n + 1) n (omega arith) (omega arith) (rw e at g)

-- the unknowns come back in front of the further places
pub front : (s : Solved) (l new x : List Float) (n : ℕ) → s ≡ Unknowns (unknowns (cells l (n + 1)) n n) → new ≡ unknowns (cells l (n + 1)) n n → new ++ drop n x ≡ written (unknowns_of s) x
front s l new x n e f = rw (e, f, unknowns_long (cells l (n + 1)) n n n)
