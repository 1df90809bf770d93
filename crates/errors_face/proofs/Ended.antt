-- How residuals end, from their answer. Assumes nothing.
use Rattle.std.specs.Prelude.{Result, Ok, Err}
use mathlib.Core.Path.{◌≡◌, refl}
use Prim.Native.Nat.{ℕ}
use native.Mathlib.Omega.{arith}
use Rattle.answer.specs.declared.Refusal.{Refusal}
use Rattle.cd_residuals.specs.Residuals.{found_after}

-- a refusal is that of the tests
pub refused : (a : Result Unit Refusal) (n : ℕ) (why : Refusal) → found_after a n ≡ Err why → a ≡ Err why
refused (Ok tt) n why e = let z : ◌≡◌ {A = ℕ} 0 1 = cc in absurd (omega arith)
refused (Err w) n why e = cc

-- a count is found where the tests are done, and it is theirs
pub found : (a : Result Unit Refusal) (n k : ℕ) → found_after a n ≡ Ok k → (a ≡ Ok tt) × (k ≡ n)
found (Ok tt) n k e = (refl, cc)
found (Err w) n k e = let z : ◌≡◌ {A = ℕ} 0 1 = cc in absurd (omega arith)
