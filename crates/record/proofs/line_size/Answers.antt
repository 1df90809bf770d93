-- `record::line_size` meets its contract: the test is the definition's. Assumes nothing.
use native.Mathlib.Omega.{arith}
use Rattle.record.proofs.line_size.Goals as goal

pub returns-then-is_kept : goal.returns-then-is_kept
returns-then-is_kept c = (rw (← c.is_kept.ensures, c.if-is_kept.true), omega arith)

pub returns : goal.returns
returns c = (rw (← c.is_kept.ensures, c.if-is_kept.false), omega arith)
