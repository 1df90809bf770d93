-- `sip_rounds::solve_errors` meets its contract: a refusal is that of the solve, and the errors are of its coefficients. Assumes nothing.
use Rattle.sip_solve.proofs.Axes.{solve_lines}
use borrow.Author.Rules.{rules}
use Rattle.std.specs.Prelude.{Err}
use Rattle.sip_sums.specs.Field.{field}
use Rattle.elimination_rows.specs.Matrix.{cells}
use Rattle.rows.specs.Rows.{rows}
use native.Mathlib.Omega.{arith}
use mathlib.Core.Path.{◌≡◌, ◌∙◌, sym}
use Prim.Native.Nat.{ℕ, ◌+◌}
use Rattle.sip_rounds.proofs.solve_errors.Goals as goal

pub solve_both-requires : goal.solve_both-requires
solve_both-requires c = let e = c.requires.py_len_4 in record { mask_len_1 = c.requires.py_len_5 ∙ sym e; mask_len_2 = rw e c.requires.lines.long; n_bound = c.requires.errors_len_2; a_len_1 = c.requires.errors_len_3; a_len_2 = c.requires.errors_len_4 }

pub put_errors-requires : goal.put_errors-requires
put_errors-requires c = let p = c.solve_both in let n = c.requires.errors_len_2 in let x = p.auto.a ∙ c.requires.errors_len_3 in let y = p.auto.b ∙ c.requires.errors_len_4 in record { py_len_1 = c.requires.py_len_1; py_len_2 = c.requires.py_len_2; py_len_3 = c.requires.py_len_3; py_len_4 = c.requires.py_len_5; py_len_5 = c.requires.errors_len_1; a_len_bound = (omega (arith, x, n), omega (arith, y, n), c.requires.errors_len_5); powers = c.requires.powers }

pub returns : goal.returns
returns c = let g = c.args in let f = field (rows g.px.now g.py.now g.xi.now g.eta.now) g.snr.now g.wcs in record { solved = rw c.in_ok-solve_both.was at (c.solve_both.ensures ∙ solve_lines f g.mask.now g.n (cells g.lines.now (g.n + 2)) c.requires.lines.held c.requires.py_len_4); errors = λ e. c.put_errors.ensures }

pub returns-in_err-solve_both : goal.returns-in_err-solve_both
returns-in_err-solve_both c = let g = c.args in let f = field (rows g.px.now g.py.now g.xi.now g.eta.now) g.snr.now g.wcs in
    let e : c.from_residual.result ≡ Err c.in_err-solve_both.field-0.0 = search rules in
    record { solved = rw e (rw c.in_err-solve_both.was at (c.solve_both.ensures ∙ solve_lines f g.mask.now g.n (cells g.lines.now (g.n + 2)) c.requires.lines.held c.requires.py_len_4)); errors = λ d. let z : ◌≡◌ {A = ℕ} 0 1 = cc (e, d) in absurd (omega arith) }
