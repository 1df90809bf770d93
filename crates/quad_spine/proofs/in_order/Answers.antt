-- `quad_spine::in_order` meets its contract. Assumes nothing.
use mathlib.Core.Path.{◌≡◌, refl}
use mathlib.Core.Bool.{Bool, true, false, cond, not, ◌||◌, ◌&&◌}
use lib.Dec.{ltb}
use lib.Ieee.{lt}
use Rattle.quad_spine.specs.Spine.{in_order_of}
use Rattle.quad_spine.proofs.in_order.Goals as goal

-- four tests in their order, joined
joined : (a b c d e : Bool) → (a || (not b && (c || (not d && e)))) ≡ cond a true (cond b false (cond c true (cond d false e)))
joined true b c d e = refl
joined false true c d e = refl
joined false false true d e = refl
joined false false false true e = refl
joined false false false false e = refl

pub returns : goal.returns
unfolding in_order_of
returns c =
    let a = c.args in
    let p = a.p in
    let q = a.q in
    joined (lt p.x q.x) (lt q.x p.x) (lt p.y q.y) (lt q.y p.y) (ltb p.at q.at)
