-- `cd_round::with_square_if` meets its contract: both ways are those of the definition. Assumes nothing.
use Rattle.cd_round.proofs.with_square_if.Goals as goal

pub returns-then-on : goal.returns-then-on
returns-then-on c = rw c.if-on.true

pub returns-else-on : goal.returns-else-on
returns-else-on c = rw c.if-on.false
