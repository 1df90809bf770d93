-- `cases::list_at` meets its contract: the members that are read are at the front of the list. Assumes nothing.
use native.Mathlib.Omega.{arith}
use Rattle.cases.proofs.Counts.{counts}
use Rattle.cases.proofs.list_at.Goals as goal

pub returns-in_default : goal.returns-in_default
returns-in_default g c = counts _ _ (omega arith)

pub returns : goal.returns
returns g c = counts _ _ (omega arith)
