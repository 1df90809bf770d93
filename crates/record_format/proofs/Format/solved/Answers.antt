-- `record_format::Format::solved` meets its contract: the test is the definition's. Assumes nothing.
use Rattle.record_format.proofs.Format.solved.Goals as goal

pub returns-then-self : goal.returns-then-self
returns-then-self c = rw c.if-self.true c.keep.ensures

pub returns : goal.returns
returns c = rw c.if-self.false
