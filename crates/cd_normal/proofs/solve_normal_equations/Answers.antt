-- `cd_normal::solve_normal_equations` meets its contract: the tests decide, then the solve. Assumes nothing.
use mathlib.Core.Path.{sym, ◌∙◌}
use lib.ListN.{length}
use borrow.Author.Rules.{rules}
use Rattle.cd_normal.proofs.Done.{tested}
use Rattle.cd_normal.proofs.solve_normal_equations.Goals as goal

pub solve_sized-requires : goal.solve_sized-requires
solve_sized-requires c = let a = c.args in let t = tested (length a.a.now) (length a.b.now) a.n (length a.x.now) (sym c.check_lengths.ensures ∙ c.in_ok-check_lengths.was) in record { a_len = t.0; b_len = t.1; n_bound = (t.2, t.3) }

pub returns : goal.returns
returns c = record { answer = rw (← c.check_lengths.ensures, c.in_ok-check_lengths.was) c.solve_sized.ensures.0; unknowns = c.solve_sized.ensures.1 }
