-- `record::terms_size` meets its contract: the loop's invariant: what is counted, and what the coefficients that are left take, come to the whole. Assumes nothing.
use lib.Ieee.{nan}
use native.Mathlib.Omega.{arith}
use Rattle.record.proofs.Laws.{size_more, size_none}
use Rattle.record.proofs.terms_size.Goals as goal

pub loop-c-init : goal.loop-c-init
loop-c-init c = (omega arith, omega arith)

pub loop-c-preserved : goal.loop-c-preserved
loop-c-preserved c = let l = c.loop-c in (omega (arith, size_more c.args.cs.now l.c-index nan c.loop-c-test.true, l.invariant.0, c.line_size-m.ensures.0), omega (arith, c.line_size-m.ensures.1))

pub returns : goal.returns
returns c = let l = c.loop-c in (omega (arith, size_none c.args.cs.now l.c-index c.loop-c-test.false, l.invariant.0), omega arith)
