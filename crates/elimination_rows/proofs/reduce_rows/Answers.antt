-- `elimination_rows::reduce_rows` meets its contract: the rows before `row` are reduced. Assumes nothing.
use mathlib.Core.Path.{◌≡◌, ◌∙◌}
use native.Mathlib.Omega.{arith}
use borrow.Author.Rules.{rules}
use Rattle.elimination_rows.proofs.Turns.{tail_read, tail_long, reduce_none, reduce_more, reduce_all}
use Rattle.elimination_rows.proofs.Flat.{in_cell}
use Rattle.elimination_rows.specs.Matrix.{cells}
use Rattle.elimination_rows.proofs.reduce_rows.Goals as goal

pub cell_at-d-requires : goal.cell_at-d-requires
cell_at-d-requires c = let a = c.args in omega (arith, in_cell a.n a.w a.col a.col (omega arith) (omega arith))

pub loop-row-init : goal.loop-row-init
loop-row-init c = let a = c.args in (reduce_none a.m.now a.n a.w a.col, search rules, omega arith, omega arith)

pub cell_at-requires : goal.cell_at-requires
cell_at-requires c = let a = c.args in omega (arith, in_cell a.n a.w c.loop-row.row a.col (omega arith) (omega arith))

pub reduce_row-requires : goal.reduce_row-requires
reduce_row-requires c =
    let a = c.args in record { m_len = c.loop-row.invariant.1; row_lt_n = (omega arith, omega arith); pivot_len = rw c.requires.pivot_value (tail_long a.m.now a.n a.w a.col c.requires.m_len (omega arith) (omega arith)) }

pub loop-row-preserved : goal.loop-row-preserved
loop-row-preserved c =
    let a = c.args in (
      reduce_more c.loop-row.m c.reduce_row.new.m a.pivot.now a.n a.w a.col c.loop-row.row (cells a.m.now a.w) _ c.loop-row.invariant.2 (omega arith) (omega arith) (tail_read a.m.now a.pivot.now a.w a.col c.requires.pivot_value) (rw (c.cell_at.ensures, c.cell_at-d.ensures)) c.loop-row.invariant.0 c.reduce_row.ensures,
      c.reduce_row.auto.m ∙ c.loop-row.invariant.1,
      omega arith,
      omega arith,
    )

pub returns : goal.returns
returns c =
    let a = c.args in
    let e : c.loop-row.row ≡ a.n = omega arith in
    reduce_all c.loop-row.m a.n a.w a.col (cells a.m.now a.w) (rw e at c.loop-row.invariant.0)
