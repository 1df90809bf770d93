-- `elimination::row_rest` meets its contract: what is left of the sum comes to the whole. Assumes nothing.
use Prim.Native.Nat.{◌+◌}
use mathlib.Core.Path.{◌≡◌, ◌∙◌}
use native.Mathlib.Omega.{arith}
use lib.Seq.{drop-length}
use lib.ListN.{length}
use Rattle.elimination_rows.specs.Matrix.{cells}
use Rattle.elimination.proofs.Back.{row_more}
use Rattle.elimination.specs.Elimination.{row_less}
use Rattle.elimination.proofs.row_rest.Goals as goal

pub loop-k-preserved : goal.loop-k-preserved
loop-k-preserved c =
    let a = c.args in
    rw (c.cell_at.ensures, ← row_more (cells a.m.now a.w) a.i (a.i + 1) a.x.now c.loop-k.sum c.loop-k.k (omega arith)) c.loop-k.invariant

pub returns : goal.returns
unfolding row_less
returns c =
    let e : c.loop-k.k ≡ length c.args.x.now = omega arith in
    let h = rw (e, drop-length) at c.loop-k.invariant in
    h ∙ rw c.cell_at-sum.ensures
