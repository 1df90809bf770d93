-- `record_format::Format::held` meets its contract: the test is the definition's. Assumes nothing.
use Rattle.record_format.proofs.Format.held.Goals as goal

pub returns-then-self : goal.returns-then-self
returns-then-self c = rw c.if-self.true

pub returns : goal.returns
returns c = rw c.if-self.false
