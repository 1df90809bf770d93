-- `elimination::eliminate_in` meets its contract: the columns from col on, on what the list holds, come to the whole. Assumes nothing.
use Prim.Native.Nat.{◌-◌}
use mathlib.Core.Bool.{true}
use mathlib.Core.Path.{◌≡◌, ◌∙◌, refl, sym}
use native.Mathlib.Omega.{arith}
use borrow.Author.Tests.{not-true, not-false}
use borrow.Author.Rules.{rules}
use Rattle.elimination_rows.specs.Matrix.{cells}
use Rattle.elimination.proofs.Ends.{ended_stop, ended_more, ended_all}
use Rattle.elimination.proofs.Alike.{same_self}
use Rattle.elimination.specs.Elimination.{eliminated}
use mathlib.Core.Path.{ap}
use mathlib.Core.Bool.{not}
use Rattle.elimination.proofs.eliminate_in.Goals as goal

pub loop-col-init : goal.loop-col-init
loop-col-init c = let a = c.args in let e : a.n - 0 ≡ a.n = omega arith in (rw e (same_self a.n a.w (eliminated (cells a.m.now a.w) a.n)), search rules, refl, omega arith)

pub returns-then-not-clear_column : goal.returns-then-not-clear_column
returns-then-not-clear_column c =
    let a = c.args in
    let s = c.clear_column in
    ended_stop (eliminated (cells a.m.now a.w) a.n) (cells c.loop-col.m a.w) a.n a.w c.loop-col.col (omega arith) c.loop-col.invariant.0 (sym s.ensures.tested ∙ not-true s.result (ap not c.if-not-clear_column.true)) s.new.m

pub loop-col-preserved : goal.loop-col-preserved
loop-col-preserved c =
    let a = c.args in
    let s = c.clear_column in
    let t : s.result ≡ true = not-false s.result (ap not c.if-not-clear_column.false) in (
      ended_more (eliminated (cells a.m.now a.w) a.n) (cells c.loop-col.m a.w) a.n a.w c.loop-col.col (omega arith) c.loop-col.invariant.0 (sym s.ensures.tested ∙ t) (omega arith) s.new.m (s.ensures.held t),
      s.auto.m ∙ c.loop-col.invariant.1,
      search rules,
      omega arith,
    )

pub returns : goal.returns
returns c =
    let a = c.args in
    ended_all (eliminated (cells a.m.now a.w) a.n) c.loop-col.m a.n a.w c.loop-col.col (omega arith) c.loop-col.invariant.0
