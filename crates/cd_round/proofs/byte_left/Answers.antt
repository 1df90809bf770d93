-- `cd_round::byte_left` meets its contract: both ways are those of the definition. Assumes nothing.
use Rattle.cd_round.proofs.byte_left.Goals as goal

pub returns-then-out : goal.returns-then-out
returns-then-out c = rw c.if-out.true

pub returns-else-out : goal.returns-else-out
returns-else-out c = rw c.if-out.false
