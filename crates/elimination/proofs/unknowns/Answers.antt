-- `elimination::unknowns` meets its contract: the unknowns from i on stand in x. Assumes nothing.
use Prim.Native.Nat.{◌+◌, ◌-◌}
use mathlib.Core.Path.{◌≡◌, ◌∙◌}
use native.Mathlib.Omega.{arith}
use lib.Seq.{take_all}
use lib.ListN.{length-set, length-drop, drop_of_length-le, take, drop}
use borrow.Author.Rules.{rules}
use Rattle.elimination_rows.specs.Matrix.{cells}
use Rattle.elimination.proofs.Back.{back_more, put_front}
use Rattle.elimination.specs.Elimination.{unknowns_to}
use Rattle.elimination.proofs.unknowns.Goals as goal

pub loop-i-init : goal.loop-i-init
unfolding unknowns_to
loop-i-init c = let a = c.args in let e : a.n - a.n ≡ 0 = omega arith in (rw e (drop_of_length-le a.x.now {i = a.n} (omega arith)), search rules)

pub loop-i-preserved : goal.loop-i-preserved
loop-i-preserved c =
    let a = c.args in
    let l = c.loop-i in
    let i = l.i - 1 in
    let e : i + 1 ≡ l.i = omega arith in
    let t : take (a.n - l.i) (drop l.i l.x) ≡ drop l.i l.x = take_all (a.n - l.i) (drop l.i l.x) (simp length-drop (omega arith)) in (
      put_front l.x i _ (omega arith) ∙ rw (back_more (cells a.m.now a.w) a.n a.b l.i (omega arith) (omega arith), c.row_rest-s.ensures, c.cell_at.ensures, e, t, l.invariant.0),
      simp length-set l.invariant.1,
    )

pub returns : goal.returns
returns c =
    let a = c.args in
    let z : c.loop-i.i ≡ 0 = omega arith in
    let e : a.n - 0 ≡ a.n = omega arith in
    rw (z, e) at c.loop-i.invariant.0
