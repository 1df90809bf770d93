-- `sip_values::add_products` meets its contract: after k rows the first k sums have their products. Assumes nothing.
use lib.Ieee.{nan}
use Rattle.sip_values.specs.Values.{product_at}
use Rattle.sip_terms.proofs.Told.{front_at}
use Rattle.cd_plate.proofs.Filling.{start, again}
use lib.ListN.{length, drop_of_length-le}
use native.Mathlib.Omega.{arith}
use mathlib.Core.List.{append-nil}
use mathlib.Core.Path.{◌≡◌, ◌∙◌}
use borrow.Author.Rules.{rules}
use Rattle.sip_values.proofs.add_products.Goals as goal

pub loop-k-init : goal.loop-k-init
loop-k-init c = (start, search rules, search rules)

pub bounds-s-k : goal.bounds-s-k
bounds-s-k c = omega (arith, c.loop-k.invariant.0.long)

pub bounds-s-k-in-loop-k : goal.bounds-s-k-in-loop-k
bounds-s-k-in-loop-k c = omega (arith, c.loop-k.invariant.0.long)

pub loop-k-preserved : goal.loop-k-preserved
loop-k-preserved c = let l = c.loop-k in let a = c.args in (again _ l.invariant.0 (omega arith) (rw (l.invariant.0.is, front_at (product_at a.c a.x.now a.y.now a.s.now) l.k a.s.now nan)), omega arith, search rules)

pub shape_of-s : goal.shape_of-s
shape_of-s c = c.loop-k.invariant.0.long

pub returns : goal.returns
returns c = let l = c.loop-k in let a = c.args in let e : l.k ≡ length a.s.now = omega arith in l.invariant.0.is ∙ rw (e, drop_of_length-le a.s.now {i = length a.s.now} (omega arith), append-nil)
