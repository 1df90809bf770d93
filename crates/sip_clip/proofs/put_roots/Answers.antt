-- `sip_clip::put_roots` meets its contract: after k rows the first k places are filled. Assumes nothing.
use borrow.Author.Rules.{rules}
use Rattle.cd_plate.proofs.Filling.{start, again}
use lib.ListN.{length, drop_of_length-le}
use native.Mathlib.Omega.{arith}
use mathlib.Core.List.{append-nil}
use mathlib.Core.Path.{◌≡◌, ◌∙◌}
use Rattle.sip_clip.proofs.put_roots.Goals as goal

pub loop-k-init : goal.loop-k-init
loop-k-init c = (start, search rules, search rules)

pub bounds-roots-k : goal.bounds-roots-k
bounds-roots-k c = omega (arith, c.loop-k.invariant.0.long)

pub loop-k-preserved : goal.loop-k-preserved
loop-k-preserved c = (again c.root.result c.loop-k.invariant.0 (omega arith) c.root.ensures.is, omega arith, search rules)

pub shape_of-roots : goal.shape_of-roots
shape_of-roots c = c.loop-k.invariant.0.long

pub returns : goal.returns
returns c = let l = c.loop-k in let a = c.args in let e : l.k ≡ length a.snr.now = omega arith in l.invariant.0.is ∙ rw (e, drop_of_length-le a.roots.now {i = length a.snr.now} (omega arith), append-nil)
