-- `sip_clip::put_lengths` meets its contract: after k rows the first k places are filled. Assumes nothing.
use Rattle.cd_plate.proofs.Filling.{start, again}
use lib.ListN.{length, drop_of_length-le}
use native.Mathlib.Omega.{arith}
use mathlib.Core.List.{append-nil}
use mathlib.Core.Path.{◌≡◌, ◌∙◌}
use borrow.Author.Rules.{rules}
use Rattle.sip_clip.proofs.put_lengths.Goals as goal

pub loop-k-init : goal.loop-k-init
loop-k-init c = (start, search rules, search rules)

pub bounds-errors-k : goal.bounds-errors-k
bounds-errors-k c = omega (arith, c.loop-k.invariant.0.long)

pub loop-k-preserved : goal.loop-k-preserved
loop-k-preserved c = (again c.error_if.result c.loop-k.invariant.0 (omega arith) (rw (c.error_if.ensures, c.offset_at-o.ensures)), omega arith, search rules)

pub shape_of-errors : goal.shape_of-errors
shape_of-errors c = c.loop-k.invariant.0.long

pub returns : goal.returns
returns c = let l = c.loop-k in let a = c.args in let e : l.k ≡ length a.px.now = omega arith in l.invariant.0.is ∙ rw (e, drop_of_length-le a.errors.now {i = length a.px.now} (omega arith), append-nil)
