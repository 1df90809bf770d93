-- `cases::read_line`: what was read is at the front of the list, which keeps its length. Assumes nothing.
use Rattle.std.proofs.Common.{◌≢◌, take, All}
use Rattle.std.specs.Io.KnownBytes.{Consumes}
use Rattle.cases.proofs.read_line.Given as goal

abbrev pub invariant-loop-n : goal.invariant-loop-n
invariant-loop-n g l = record {
  none : All (λ x. x ≢ 10) (take l.n l.out);
  moved : Consumes (g.R.Read.remaining l.initial.input) (g.R.Read.remaining l.input) (take l.n l.out);
}
