-- `sip_rms::Totals::with_error_if` meets its contract: the test decides. Assumes nothing.
use Rattle.sip_rms.proofs.Totals.with_error_if.Goals as goal

pub returns-then-on : goal.returns-then-on
returns-then-on c = rw c.if-on.true c.with_error.ensures

pub returns-else-on : goal.returns-else-on
returns-else-on c = rw c.if-on.false
