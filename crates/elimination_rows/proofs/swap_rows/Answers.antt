-- `elimination_rows::swap_rows` meets its contract: the columns below k are swapped. Assumes nothing.
use Prim.Native.Nat.{◌+◌, ◌*◌}
use mathlib.Core.Path.{◌≡◌}
use native.Mathlib.Omega.{arith}
use lib.Ieee.{nan}
use Rattle.std.proofs.lemmas.List.Edits.{swap_is}
use Rattle.elimination_rows.proofs.Turns.{swap_none, swap_more, swap_all}
use Rattle.elimination_rows.proofs.Flat.{in_row}
use Rattle.elimination_rows.specs.Matrix.{cells}
use Rattle.elimination_rows.proofs.swap_rows.Goals as goal

pub loop-k-init : goal.loop-k-init
loop-k-init c = let a = c.args in swap_none a.m.now a.n a.w a.a a.b

pub loop-k-preserved : goal.loop-k-preserved
loop-k-preserved c =
    let a = c.args in
    let l = c.loop-k in
    rw (c.swap.ensures.after, ← swap_is l.m (a.a * a.w + l.k) (a.b * a.w + l.k) nan (omega (arith, in_row a.n a.w a.a (omega arith))) (omega (arith, in_row a.n a.w a.b (omega arith))))
    (swap_more l.m a.n a.w a.a a.b l.k (cells a.m.now a.w) (omega arith) (omega arith) (omega arith) (omega arith) l.invariant)

pub returns : goal.returns
returns c =
    let a = c.args in
    let e : c.loop-k.k ≡ a.w = omega arith in
    swap_all c.loop-k.m a.n a.w a.a a.b (cells a.m.now a.w) (rw e at c.loop-k.invariant)
