-- `record_scan::Test::holds` meets its contract: each way is the test of that name. Assumes nothing.
use Rattle.record_scan.proofs.Test.holds.Goals as goal

pub returns-in-Position : goal.returns-in-Position
returns-in-Position c = rw c.in-Position.is c.is_position.ensures

pub returns-in-Finite : goal.returns-in-Finite
returns-in-Finite c = rw c.in-Finite.is c.is_finite.ensures

pub returns-in-Kept : goal.returns-in-Kept
returns-in-Kept c = rw c.in-Kept.is c.is_kept.ensures
