-- `elimination_rows::pivot_row` meets its contract: the pivot of the rows before r. Assumes nothing.
use mathlib.Core.Path.{◌≡◌, ◌∙◌, ap}
use native.Mathlib.Omega.{arith}
use Rattle.floats.specs.Magnitude.{magnitude_of}
use Rattle.elimination_rows.proofs.Turns.{pivot_none, pivot_taken, pivot_left}
use Rattle.elimination_rows.proofs.Flat.{in_cell}
use Rattle.elimination_rows.specs.Matrix.{cells}
use Rattle.elimination_rows.proofs.pivot_row.Goals.{then-v-size, else-v-size}
use Rattle.elimination_rows.proofs.pivot_row.Goals as goal

pub cell_at-requires : goal.cell_at-requires
cell_at-requires c = let a = c.args in omega (arith, in_cell a.n a.w a.col a.col (omega arith) (omega arith))

pub loop-r-init : goal.loop-r-init
loop-r-init c = let a = c.args in (pivot_none (cells a.m.now a.w) a.col, c.magnitude-size.ensures ∙ ap magnitude_of c.cell_at.ensures, omega arith, omega arith, omega arith)

pub cell_at-requires-in-loop-r : goal.cell_at-requires-in-loop-r
cell_at-requires-in-loop-r c = let a = c.args in omega (arith, in_cell a.n a.w c.loop-r.r a.col (omega arith) (omega arith))

pub loop-r-preserved : goal.loop-r-preserved
loop-r-preserved c =
    let a = c.args in
    let i = c.loop-r in
    let m = cells a.m.now a.w in
    let o : c.magnitude-v.result ≡ magnitude_of (m i.r a.col) = c.magnitude-v.ensures ∙ ap magnitude_of c.cell_at-in-loop-r.ensures in
    elim c.if-v-size.branch [
      | then-v-size w ↦
          (w.row-is ∙ pivot_taken m a.col i.r i.row i.size c.magnitude-v.result i.invariant.3 i.invariant.0 i.invariant.1 o w.if-v-size.true, rw w.row-is (w.size-is ∙ o), omega arith, omega arith, omega arith)
      | else-v-size w ↦
          (w.row-is ∙ pivot_left m a.col i.r i.row i.size c.magnitude-v.result i.invariant.3 i.invariant.0 i.invariant.1 o w.if-v-size.false, rw w.row-is (w.size-is ∙ i.invariant.1), omega arith, omega arith, omega arith)
    ]

pub returns : goal.returns
returns c =
    let a = c.args in
    let e : c.loop-r.r ≡ a.n = omega arith in
    (rw (← e) c.loop-r.invariant.0, c.loop-r.invariant.1, c.loop-r.invariant.2)
