-- `wcs::put_wcs` meets its contract: six stores from the front are what is written. Assumes nothing.
use native.Mathlib.Omega.{arith}
use lib.ListN.{length-set}
use Rattle.answer.proofs.Lent.{front}
use Rattle.wcs.specs.Wcs.{wcs_numbers}
use Rattle.wcs.proofs.put_wcs.Goals as goal

pub bounds-wcs-1 : goal.bounds-wcs-1
bounds-wcs-1 c = simp length-set (omega arith)

pub bounds-wcs-2 : goal.bounds-wcs-2
bounds-wcs-2 c = simp length-set (omega arith)

pub bounds-wcs-3 : goal.bounds-wcs-3
bounds-wcs-3 c = simp length-set (omega arith)

pub bounds-wcs-4 : goal.bounds-wcs-4
bounds-wcs-4 c = simp length-set (omega arith)

pub bounds-wcs-5 : goal.bounds-wcs-5
bounds-wcs-5 c = simp length-set (omega arith)

pub returns : goal.returns
returns c = front (wcs_numbers c.args.w) c.args.wcs.now c.requires
