-- `cases::print_floats`: the members so far are written. Assumes nothing.
use Rattle.std.specs.Io.KnownBytes.{Appends}
use Rattle.cases.specs.Lists.{float_text}
use Rattle.cases.proofs.Listing.{so_far}
use Rattle.cases.proofs.print_floats.Given as goal

abbrev pub invariant-loop-i : goal.invariant-loop-i
invariant-loop-i g l = record {
  written : Appends (g.W.Write.contents l.fn.out) (g.W.Write.contents l.out) (so_far float_text l.list l.i);
}
