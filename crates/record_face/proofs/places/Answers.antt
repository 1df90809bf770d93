-- `record_face::places` meets its contract: each way is that of the definition. Assumes nothing.
use native.Mathlib.Omega.{arith}
use Rattle.record_face.proofs.places.Goals as goal

pub returns-then-wcs-sums : goal.returns-then-wcs-sums
returns-then-wcs-sums c = (rw c.if-wcs-sums.true, omega arith)

pub returns : goal.returns
returns c = (rw c.if-wcs-sums.false, omega arith)
