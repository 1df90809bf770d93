-- `scan_digits::held_at` meets its contract: one test.
use borrow.Author.Tests.{lt-ltb, le-ltb}
use native.Mathlib.Omega.{arith}
use Rattle.scan_digits.proofs.held_at.Goals as goal

pub returns-then-n-gt4294967296 : goal.returns-then-n-gt4294967296
returns-then-n-gt4294967296 c = (rw (lt-ltb _ _ c.if-n-gt4294967296.true), omega arith)

pub returns : goal.returns
returns c = (rw (le-ltb _ _ c.if-n-gt4294967296.false), omega arith)
