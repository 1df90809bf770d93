-- What an input is like that passed tests in order. Assumes nothing.
use Rattle.std.specs.Prelude.{Result, Ok, Err}
use mathlib.Core.Path.{◌≡◌, refl}
use mathlib.Core.Bool.{Bool, true, false, cond, ◌||◌}
use Prim.Native.Nat.{ℕ}
use native.Mathlib.Omega.{arith}
use Rattle.answer.specs.Answers.{first}
use Rattle.answer.specs.declared.Refusal.{Refusal}

-- a test that refuses did not hold where all are done
pub passed : (b : Bool) (why : Refusal) (r : Result Unit Refusal) → cond b (Err why) r ≡ Ok tt → (b ≡ false) × (r ≡ Ok tt)
passed true why r e = let z : ◌≡◌ {A = ℕ} 0 1 = cc in absurd (omega arith)
passed false why r e = (refl, e)

-- both of two tests are done where the first refusal of the two is none
pub both : (a b : Result Unit Refusal) → first a b ≡ Ok tt → (a ≡ Ok tt) × (b ≡ Ok tt)
both (Ok tt) b e = (refl, e)
both (Err why) b e = let z : ◌≡◌ {A = ℕ} 0 1 = cc in absurd (omega arith)

-- neither of two holds where their disjunction does not
pub neither : (a b : Bool) → (a || b) ≡ false → (a ≡ false) × (b ≡ false)
neither true b h = let z : ◌≡◌ {A = ℕ} 0 1 = cc in absurd (omega arith)
neither false b h = (refl, h)
