-- `sip_terms::put_sip` meets its contract: three stores from the front are what is written. Assumes nothing.
use Rattle.sip_terms.specs.Sums.{sums_of}
use Rattle.answer.proofs.Lent.{front}
use lib.ListN.{length-set}
use native.Mathlib.Omega.{arith}
use mathlib.Core.Path.{refl}
use Rattle.sip_terms.proofs.put_sip.Goals as goal

pub bounds-sums-1 : goal.bounds-sums-1
bounds-sums-1 c = simp length-set (omega arith)

pub bounds-sums-2 : goal.bounds-sums-2
bounds-sums-2 c = simp length-set (omega arith)

pub returns : goal.returns
returns c = record { rows = refl; sums = front (sums_of c.args.s) c.args.sums.now c.requires }
