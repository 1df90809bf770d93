-- `hash_near::gather_one` meets its contract: a near quad is stored after those found, and another is passed over. Assumes nothing.
use mathlib.Core.Path.{sym, ◌∙◌}
use Prim.Native.Nat.{◌<◌}
use native.Mathlib.Omega.{arith}
use Rattle.hash_lanes.proofs.Number.{steps_small}
use Rattle.hash_near.proofs.Near.{one_near, one_far, one_more, none_more}
use Rattle.hash_near.proofs.gather_one.Goals.{After-steps}
use Rattle.hash_near.proofs.gather_one.Goals as goal

-- a near quad's number is below 81
small : (c : After-steps) → c.steps.result < 81
small c = rw c.steps.ensures (steps_small _ _ _ (sym c.is_near.ensures ∙ c.if-is_near.true))

pub overflow_mul-found : goal.overflow_mul-found
overflow_mul-found c = let s = small c in omega arith

pub overflow_add-found : goal.overflow_add-found
overflow_add-found c = let s = small c in omega arith

pub returns-then-is_near : goal.returns-then-is_near
returns-then-is_near c =
    let a = c.args in
    one_more a.found.now a.n _ _ (omega arith) (rw c.steps.ensures (one_near a.lanes.now a.base a.j (sym c.is_near.ensures ∙ c.if-is_near.true)))

pub returns : goal.returns
returns c =
    let a = c.args in
    none_more a.found.now a.n _ (one_far a.lanes.now a.base a.j (sym c.is_near.ensures ∙ c.if-is_near.false))
