-- `cases::print_bytes`: the members so far are written. Assumes nothing.
use Rattle.std.specs.Io.KnownBytes.{Appends}
use Rattle.digits.specs.Digits.{decimal_of}
use Rattle.cases.proofs.Listing.{so_far}
use Rattle.cases.proofs.print_bytes.Given as goal

abbrev pub invariant-loop-i : goal.invariant-loop-i
invariant-loop-i g l = record {
  written : Appends (g.W.Write.contents l.fn.out) (g.W.Write.contents l.out) (so_far decimal_of l.list l.i);
}
