-- `quad_lists::put_star` meets its contract. Assumes nothing.
use Prim.Native.Nat.{◌+◌, ◌-◌, ◌*◌}
use mathlib.Core.Path.{◌∙◌}
use native.Mathlib.Omega.{arith}
use lib.ListN.{length-take, length-drop}
use Rattle.quad_lists.proofs.Rows.{star_put}
use Rattle.quad_lists.proofs.put_star.Goals as goal

pub returns : goal.returns
returns c =
    let a = c.args in
    let v = c.nearest_of-c in
    star_put a.lists.now v.new.at a.p (a.p * 10 + 10 - a.p * 10) (v.auto.at ∙ rw (length-take, length-drop) (omega (arith, c.requires.1, c.requires.2, c.requires.4))) (omega (arith, c.requires.1, c.requires.2, c.requires.4)) a.xs.now a.ys.now a.k v.result c.requires.1 c.requires.3 v.ensures a.words.now c.put_words.new.words c.put_words.ensures
