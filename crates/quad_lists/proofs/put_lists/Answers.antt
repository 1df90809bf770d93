-- `quad_lists::put_lists` meets its contract. Assumes nothing.
use Prim.Native.Nat.{◌-◌, min}
use mathlib.Core.Path.{◌∙◌}
use native.Mathlib.Omega.{arith}
use lib.ListN.{length}
use Rattle.quad_lists.proofs.Rows.{all_put}
use Rattle.quad_lists.proofs.put_lists.Goals as goal

pub returns : goal.returns
returns c =
    let a = c.args in
    let l = c.loop-p in
    rw c.count_of.ensures (all_put a.xs.now a.ys.now a.k (min a.k (length a.xs.now - 1)) l.lists l.words c.requires.1 (omega (arith, c.requires.2)) (l.auto.lists ∙ c.requires.3) (l.auto.words ∙ c.requires.4) (λ q h. l.invariant q (omega arith)))
