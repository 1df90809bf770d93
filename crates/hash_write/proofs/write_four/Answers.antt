-- `hash_write::write_four` meets its contract: four stores, each with its length kept. Assumes nothing.
use native.Mathlib.Numerals.{add-one, add-two, add-three}
use native.Mathlib.Omega.{arith}
use lib.ListN.{length-set}
use Rattle.hash_write.proofs.write_four.Goals as goal

pub bounds-matches-p-2 : goal.bounds-matches-p-2
bounds-matches-p-2 c = simp length-set (omega arith)

pub bounds-matches-p-3 : goal.bounds-matches-p-3
bounds-matches-p-3 c = simp length-set (omega arith)

pub bounds-matches-p-4 : goal.bounds-matches-p-4
bounds-matches-p-4 c = simp length-set (omega arith)

pub returns : goal.returns
returns c = rw (c.place_at-4.ensures, c.place_at-3.ensures, c.place_at-2.ensures, c.place_at.ensures) (simp (add-one, add-two, add-three))
