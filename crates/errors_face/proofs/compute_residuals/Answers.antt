-- `errors_face::compute_residuals` meets its contract: six numbers make a WCS, and then the inner call decides. Assumes nothing.
use mathlib.Core.Path.{refl, sym, ap, ◌∙◌}
use borrow.Author.Tests.{eq-eqb, ne_eqb}
use lib.ListN.{length}
use Rattle.answer.specs.Answers.{answer_number}
use Rattle.rows.specs.Rows.{rows}
use Rattle.cd_residuals.specs.Residuals.{found_of, residuals_done}
use Rattle.errors_face.proofs.Ended.{refused, found}
use Rattle.errors_face.proofs.compute_residuals.Goals as goal

pub returns-then-few_rows : goal.returns-then-few_rows
returns-then-few_rows c = rw (ne_eqb _ _ c.if-wcs-ne6.true, ← c.few_rows.ensures, c.if-few_rows.true) (record { number = c.number.ensures; x = refl; y = refl; all = refl; residuals = refl })

pub returns-then-wcs-ne6 : goal.returns-then-wcs-ne6
returns-then-wcs-ne6 c = rw (ne_eqb _ _ c.if-wcs-ne6.true, ← c.few_rows.ensures, c.if-few_rows.false) (record { number = c.number-then-wcs-ne6.ensures; x = refl; y = refl; all = refl; residuals = refl })

pub returns-in-Err : goal.returns-in-Err
returns-in-Err c =
    let a = c.args in
    let e = refused (residuals_done (rows a.px.now a.py.now a.xi.now a.eta.now) c.of.result (length a.x.now) (length a.y.now) (length a.all.now)) (found_of c.of.result (length a.px.now)) _ (sym c.compute_residuals.ensures.answer ∙ c.in-Err.is) in rw (eq-eqb _ _ c.if-wcs-ne6.false, ← c.of.ensures, e) (record { number = c.number-in-Err.ensures; x = rw e at c.compute_residuals.ensures.x; y = rw e at c.compute_residuals.ensures.y; all = rw e at c.compute_residuals.ensures.px; residuals = refl })

pub returns-in-Ok : goal.returns-in-Ok
returns-in-Ok c =
    let a = c.args in
    let e = found (residuals_done (rows a.px.now a.py.now a.xi.now a.eta.now) c.of.result (length a.x.now) (length a.y.now) (length a.all.now)) (found_of c.of.result (length a.px.now)) _ (sym c.compute_residuals.ensures.answer ∙ c.in-Ok.is) in rw (eq-eqb _ _ c.if-wcs-ne6.false, ← c.of.ensures) (record { number = sym (ap answer_number e.0); x = c.compute_residuals.ensures.x; y = c.compute_residuals.ensures.y; all = c.compute_residuals.ensures.px; residuals = rw e.0 e.1 })
