-- `sip_sums::add_line` meets its contract: the rows below i have the line. Assumes nothing.
use borrow.Author.Rules.{rules}
use Rattle.sip_sums.proofs.Adding.{lines_none, lines_more, lines_all}
use Rattle.elimination_rows.proofs.Flat.{in_row}
use Rattle.elimination_rows.specs.Matrix.{cells}
use lib.Seq.{length-take-le}
use lib.ListN.{drop, length-drop}
use native.Mathlib.Omega.{arith}
use mathlib.Core.Path.{◌≡◌, ◌∙◌, refl, sym}
use Prim.Native.Nat.{◌+◌, ◌-◌, ◌*◌}
use Rattle.sip_sums.proofs.add_line.Goals as goal

pub loop-i-init : goal.loop-i-init
loop-i-init c = let a = c.args in (lines_none (cells a.m.now a.w) a.weight a.line.now a.n a.w a.m.now (λ r c h k. refl), search rules, search rules, search rules, search rules, search rules)

pub overflow_mul-from : goal.overflow_mul-from
overflow_mul-from c = let a = c.args in omega (arith, in_row a.n a.w c.loop-i.i (omega arith))

pub overflow_add-end : goal.overflow_add-end
overflow_add-end c = let a = c.args in omega (arith, in_row a.n a.w c.loop-i.i (omega arith))

pub offset_bounds-m-from : goal.offset_bounds-m-from
offset_bounds-m-from c = let a = c.args in omega (arith, in_row a.n a.w c.loop-i.i (omega arith))

pub slice_bounds-add_scaled-end : goal.slice_bounds-add_scaled-end
slice_bounds-add_scaled-end c = let a = c.args in omega (arith, in_row a.n a.w c.loop-i.i (omega arith))

pub add_scaled-requires : goal.add_scaled-requires
add_scaled-requires c = let a = c.args in let l = c.loop-i in let e : l.i * a.w + a.w - l.i * a.w ≡ a.w = omega arith in rw e (l.invariant.3 ∙ sym (length-take-le a.w (drop (l.i * a.w) l.m) (rw length-drop (omega (arith, in_row a.n a.w l.i (omega arith))))))

pub loop-i-preserved : goal.loop-i-preserved
loop-i-preserved c = let l = c.loop-i in let a = c.args in let s = c.add_scaled in (lines_more (cells a.m.now a.w) a.weight a.line.now a.n a.w l.m s.new.row l.i (l.i * a.w + a.w - l.i * a.w) _ (omega arith) (omega arith) l.invariant.1 refl s.auto.row s.ensures l.invariant.0, c.m-1.given.1 ∙ l.invariant.1, omega arith, search rules, search rules, search rules)

pub returns : goal.returns
returns c = let l = c.loop-i in let a = c.args in let e : l.i ≡ a.n = omega arith in lines_all (cells a.m.now a.w) a.weight a.line.now a.n a.w l.m (rw e at l.invariant.0)
