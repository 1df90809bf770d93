-- `sip_values::put_column` meets its contract: the powers below p stand in column k. Assumes nothing.
use lib.Ieee.{of_bits}
use Rattle.sip_values.proofs.Columns.{column_none, column_more, column_all}
use Rattle.sip_terms.proofs.Places.{power_more}
use Rattle.elimination_rows.proofs.Flat.{in_cell}
use Rattle.elimination_rows.specs.Matrix.{cells}
use Rattle.floats.specs.Power.{power_of}
use lib.ListN.{length-set}
use native.Mathlib.Omega.{arith}
use mathlib.Core.Path.{◌≡◌, refl}
use borrow.Author.Rules.{rules}
use Rattle.sip_values.proofs.put_column.Goals as goal

pub loop-p-init : goal.loop-p-init
unfolding power_of of_bits
loop-p-init c = let a = c.args in (column_none a.x a.k a.w (cells a.out.now a.w) a.out.now (λ r c i j. refl), refl, search rules, search rules, search rules, search rules, search rules)

pub overflow_mul-at : goal.overflow_mul-at
overflow_mul-at c = omega (arith, in_cell 6 c.args.w c.loop-p.p c.args.k (omega arith) (omega arith))

pub overflow_add-at : goal.overflow_add-at
overflow_add-at c = omega (arith, in_cell 6 c.args.w c.loop-p.p c.args.k (omega arith) (omega arith))

pub offset_bounds-out-at : goal.offset_bounds-out-at
offset_bounds-out-at c = omega (arith, in_cell 6 c.args.w c.loop-p.p c.args.k (omega arith) (omega arith))

pub bounds-out-at : goal.bounds-out-at
bounds-out-at c = omega (arith, in_cell 6 c.args.w c.loop-p.p c.args.k (omega arith) (omega arith))

pub loop-p-preserved : goal.loop-p-preserved
loop-p-preserved c = let l = c.loop-p in let a = c.args in (
  column_more a.x a.k a.w (cells a.out.now a.w) l.out l.p l.r l.invariant.2 (omega arith) l.invariant.4 l.invariant.1 l.invariant.0,
  power_more a.x l.r l.p l.invariant.1,
  simp length-set l.invariant.2,
  omega arith,
  search rules,
  search rules,
  search rules,
)

pub returns : goal.returns
returns c = let l = c.loop-p in let a = c.args in let e : l.p ≡ 6 = omega arith in column_all a.x a.k a.w (cells a.out.now a.w) l.out (rw e at l.invariant.0)
