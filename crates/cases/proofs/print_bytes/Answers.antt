-- `cases::print_bytes`: a turn writes one member more. Assumes nothing.
use Rattle.std.proofs.Common.{ap}
use Rattle.digits.specs.Digits.{decimal_of}
use Rattle.cases.proofs.Listing.{list_step}
use Rattle.cases.proofs.print_bytes.Goals as goal

pub loop-i-preserved : goal.loop-i-preserved
loop-i-preserved g c = record {
  written = list_step decimal_of c.args.list.now 0 c.loop-i.i _ _ _ _ c.loop-i-test.true c.loop-i.invariant.written c.in_ok-print_comma.ensures _ (ap decimal_of c.wide.ensures) c.in_ok-print_number.ensures;
}
