-- `Set::after` meets its contract: one return for each place that can be the last to rise. Assumes nothing.
use mathlib.Core.Path.{◌∙◌}
use native.Mathlib.Omega.{arith}
use Rattle.quad_combinations.proofs.Rising.{rises, after_d, after_c, after_b, after_a, raised}
use Rattle.quad_combinations.proofs.Set.after.Goals as goal

pub returns-then-d-n : goal.returns-then-d-n
returns-then-d-n c = c.state_at.ensures ∙ after_d _ _ (omega arith)

pub returns-then-c-n : goal.returns-then-c-n
returns-then-c-n c = c.state_at-then-c-n.ensures ∙ after_c _ _ (omega arith) (omega arith)

pub returns-then-b-n : goal.returns-then-b-n
returns-then-b-n c = c.state_at-then-b-n.ensures ∙ after_b _ _ (omega arith) (omega arith) (omega arith)

pub returns-then-a-n : goal.returns-then-a-n
returns-then-a-n c = c.state_at-then-a-n.ensures ∙ after_a _ _ (omega arith) (omega arith) (omega arith) (omega arith)

pub overflow_add-a-2 : goal.overflow_add-a-2
overflow_add-a-2 c = let r = rises _ _ c.requires.1 in record { fits = omega arith }

pub overflow_add-b-2 : goal.overflow_add-b-2
overflow_add-b-2 c = let r = rises _ _ c.requires.1 in record { fits = omega arith }

pub overflow_add-c-2 : goal.overflow_add-c-2
overflow_add-c-2 c = let r = rises _ _ c.requires.1 in record { fits = omega arith }

pub overflow_add-d-2 : goal.overflow_add-d-2
overflow_add-d-2 c = let r = rises _ _ c.requires.1 in record { fits = omega arith }

pub returns : goal.returns
returns c = c.state_past.ensures ∙ raised _ _ (rises _ _ c.requires.1) (omega arith) (omega arith) (omega arith) (omega arith)
