-- `cd_rms::weighted_rms_error` meets its contract: each test has its own return. Assumes nothing.
use borrow.Author.Tests.{eq-eqb, ne_eqb}
use Rattle.cd_rms.proofs.weighted_rms_error.Goals as goal

pub returns-then-err_px-weights : goal.returns-then-err_px-weights
returns-then-err_px-weights c = rw c.if-err_px-weights.true

pub returns-then-weights-err_px : goal.returns-then-weights-err_px
returns-then-weights-err_px c = rw (c.if-err_px-weights.false, ne_eqb _ _ c.if-weights-err_px.true)

pub returns : goal.returns
returns c = rw (c.if-err_px-weights.false, eq-eqb _ _ c.if-weights-err_px.false, c.weighted_of.ensures)
