-- `sip_face::put_fit` meets its contract: a fit that is done is put, and any other leaves what is lent. Assumes nothing.
use mathlib.Core.Path.{refl}
use Rattle.sip_face.proofs.put_fit.Goals as goal

pub returns-in-Err : goal.returns-in-Err
returns-in-Err c = rw c.in-Err.is (record { number = c.number.ensures; rows = refl; sums = refl })

pub returns-in-Ok : goal.returns-in-Ok
returns-in-Ok c = rw c.in-Ok.is (record { number = refl; rows = c.put_sip.ensures.rows; sums = c.put_sip.ensures.sums })
