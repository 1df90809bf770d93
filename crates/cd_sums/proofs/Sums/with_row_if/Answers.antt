-- `cd_sums::Sums::with_row_if` meets its contract: a row that is off changes nothing. Assumes nothing.
use mathlib.Core.Path.{refl}
use Rattle.cd_sums.proofs.Sums.with_row_if.Goals as goal

pub returns-then-on : goal.returns-then-on
returns-then-on c = rw c.if-on.true c.with_row.ensures

pub returns-else-on : goal.returns-else-on
returns-else-on c = rw c.if-on.false (record { of_xi = refl; of_eta = refl })
