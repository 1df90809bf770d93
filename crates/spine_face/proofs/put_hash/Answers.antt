-- `spine_face::put_hash` meets its contract: four stores from the front are what is written. Assumes nothing.
use Rattle.answer.proofs.Lent.{front}
use Rattle.spine_face.specs.Face.{hash_numbers}
use lib.ListN.{length-set}
use native.Mathlib.Omega.{arith}
use Rattle.spine_face.proofs.put_hash.Goals as goal

pub bounds-out-1 : goal.bounds-out-1
bounds-out-1 c = simp length-set (omega arith)

pub bounds-out-2 : goal.bounds-out-2
bounds-out-2 c = simp length-set (omega arith)

pub bounds-out-3 : goal.bounds-out-3
bounds-out-3 c = simp length-set (omega arith)

pub returns : goal.returns
returns c = front (hash_numbers c.args.q) c.args.out.now c.requires
