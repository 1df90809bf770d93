-- `cd_rms::rms_error` meets its contract: each test has its own return. Assumes nothing.
use borrow.Author.Tests.{lt-ltb, le-ltb}
use Rattle.cd_rms.proofs.rms_error.Goals as goal

pub returns-then-err_px-gt-MOST_ERRORS : goal.returns-then-err_px-gt-MOST_ERRORS
returns-then-err_px-gt-MOST_ERRORS c = rw (lt-ltb _ _ c.if-err_px-gt-MOST_ERRORS.true)

pub returns : goal.returns
returns c = rw (le-ltb _ _ c.if-err_px-gt-MOST_ERRORS.false, c.rms_of.ensures)
