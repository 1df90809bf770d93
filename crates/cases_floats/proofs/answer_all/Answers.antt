-- `cases_floats::answer_all` is safe and ends: each turn passes a newline. Assumes nothing.
use native.Mathlib.Omega.{arith}
use lib.ListN.{drop}
use Rattle.scan.proofs.Reading.{line_within}
use Rattle.cases_floats.proofs.answer_all.Goals as goal

pub loop-at-smaller : goal.loop-at-smaller
loop-at-smaller c = omega (arith, c.line_end-end.ensures, (line_within (drop c.loop-at.at c.args.s.now) c.loop-at.at).0)
