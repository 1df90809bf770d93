-- `Set::is_rising` meets its contract: one return for each test. Assumes nothing.
use native.Mathlib.Omega.{arith}
use Rattle.quad_combinations.proofs.Rising.{not_rising, last_test}
use Rattle.quad_combinations.proofs.Set.is_rising.Goals as goal

pub returns-then-self : goal.returns-then-self
returns-then-self c = not_rising _ _ (λ r. omega arith)

pub returns-then-self-2 : goal.returns-then-self-2
returns-then-self-2 c = not_rising _ _ (λ r. omega arith)

pub returns-then-self-3 : goal.returns-then-self-3
returns-then-self-3 c = not_rising _ _ (λ r. omega arith)

pub returns : goal.returns
returns c = last_test _ _ (omega arith) (omega arith) (omega arith)
