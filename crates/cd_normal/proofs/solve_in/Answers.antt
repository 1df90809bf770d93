-- `cd_normal::solve_in` meets its contract: the elimination of a list that holds the system decides. Assumes nothing.
use mathlib.Core.Path.{sym, ◌∙◌}
use native.Mathlib.Omega.{arith}
use lib.Seq.{length-take-le}
use borrow.Author.Rules.{rules}
use Rattle.cd_normal.proofs.Done.{stopped, done, front}
use Rattle.cd_normal.specs.Normal.{normal_solved}
use Rattle.cd_normal.proofs.solve_in.Goals as goal

pub slice_bounds-unknowns-end-in-Ok : goal.slice_bounds-unknowns-end-in-Ok
slice_bounds-unknowns-end-in-Ok c = sym (length-take-le _ _ (omega arith))

pub unknowns-requires : goal.unknowns-requires
unknowns-requires c = record { m_len = c.eliminate.auto.m ∙ c.put_system.auto.m ∙ c.requires.m_len; n_le_w = (omega arith, omega arith); x_len = length-take-le _ _ c.requires.n_bound.1 }

pub returns-in-Err : goal.returns-in-Err
returns-in-Err c =
    let a = c.args in
    let e = c.eliminate in
    let p = c.put_system in
    (rw (stopped a.a.now a.b.now p.new.m e.new.m a.n p.ensures e.result _ c.in-Err.is e.ensures), search rules)

pub returns-in-Ok : goal.returns-in-Ok
returns-in-Ok c =
    let a = c.args in
    let e = c.eliminate in
    let p = c.put_system in
    let d = done a.a.now a.b.now p.new.m e.new.m a.n p.ensures e.result c.in-Ok.is e.ensures in
    (rw d, front (normal_solved a.a.now a.b.now a.n) e.new.m c.unknowns.new.x a.x.now a.n d c.unknowns.ensures)
