-- How a record ends, from its answer, and lists of six and of three. Assumes nothing.
use Rattle.std.specs.Prelude.{Result, Ok, Err}
use mathlib.Core.Path.{◌≡◌, refl}
use mathlib.Core.Bool.{false, not, ◌||◌}
use Prim.Native.Nat.{ℕ}
use native.Mathlib.Omega.{arith}
use lib.Dec.{eqb}
use borrow.Author.Tests.{not-false, eqb-true}
use Rattle.answer.specs.declared.Refusal.{Refusal}
use Rattle.answer.proofs.Passed.{neither}
use Rattle.record.specs.Record.{written_after}

-- a refusal is that of the tests
pub refused : (a : Result Unit Refusal) (n : ℕ) (why : Refusal) → written_after a n ≡ Err why → a ≡ Err why
refused (Ok tt) n why e = let z : ◌≡◌ {A = ℕ} 0 1 = cc in absurd (omega arith)
refused (Err w) n why e = cc

-- a record is written where the tests are done, and the count is its own
pub done : (a : Result Unit Refusal) (n k : ℕ) → written_after a n ≡ Ok k → (a ≡ Ok tt) × (k ≡ n)
done (Ok tt) n k e = (refl, cc)
done (Err w) n k e = let z : ◌≡◌ {A = ℕ} 0 1 = cc in absurd (omega arith)

-- neither list has another length
pub six_three : (x y : ℕ) → (not (eqb x 6) || not (eqb y 3)) ≡ false → (x ≡ 6) × (y ≡ 3)
six_three x y e =
    let two = neither (not (eqb x 6)) (not (eqb y 3)) e in
    (eqb-true x 6 (not-false (eqb x 6) two.0), eqb-true y 3 (not-false (eqb y 3) two.1))
