-- `record_face::put_loaded` meets its contract: each way fills in what its answer holds. Assumes nothing.
use mathlib.Core.Path.{refl}
use Rattle.record_face.proofs.put_loaded.Goals as goal

pub put_sip-requires : goal.put_sip-requires
put_sip-requires c = let p = (rw c.in-Ok.is at c.requires) in p.1

pub put_wcs-requires : goal.put_wcs-requires
put_wcs-requires c = let p = (rw c.in-Ok.is at c.requires) in p.0

pub returns-in-Err-Refused : goal.returns-in-Err-Refused
returns-in-Err-Refused c = rw (c.in-Err-Refused.is, rw c.in-Err-Refused.is at c.in-Err-Refused.field-0-is) (record { number = c.number.ensures; after = refl })

pub returns-in-Err-Wrong : goal.returns-in-Err-Wrong
returns-in-Err-Wrong c = rw (c.in-Err-Wrong.is, rw c.in-Err-Wrong.is at c.in-Err-Wrong.field-0-is) (record { number = c.number-in-Err-Wrong.ensures; after = refl })

pub returns-in-Ok : goal.returns-in-Ok
returns-in-Ok c = rw c.in-Ok.is (record { number = refl; after = rw (c.put_sip.ensures.rows, c.put_sip.ensures.sums, c.put_wcs.ensures) refl })
