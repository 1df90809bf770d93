-- `sip_tests::check_call` meets its contract: the tests of what is read decide, then the others. Assumes nothing.
use Rattle.sip_tests.proofs.check_call.Goals as goal

pub returns : goal.returns
returns c = rw (← c.check_field.ensures, c.in_ok-check_field.was) c.check_order.ensures
