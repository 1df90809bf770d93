-- `cases::print_floats`: a turn writes one member more. Assumes nothing.
use Rattle.std.proofs.Common.{refl}
use Rattle.cases.specs.Lists.{float_text}
use Rattle.cases.proofs.Listing.{list_step}
use Rattle.cases.proofs.print_floats.Goals as goal

pub loop-i-preserved : goal.loop-i-preserved
loop-i-preserved g c = record {
  written = list_step float_text c.args.list.now _ c.loop-i.i _ _ _ _ c.loop-i-test.true c.loop-i.invariant.written c.in_ok-print_comma.ensures _ refl c.in_ok-print_float.ensures;
}
