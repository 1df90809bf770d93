-- `hash_write::write_number` meets its contract: what is left, written from q on, comes to the whole. Assumes nothing.
use lib.ListN.{take, drop}
use Rattle.hash_near.specs.Over.{each}
use Rattle.hash_write.specs.Write.{pick}
use Rattle.hash_write.proofs.Writing.{Writing}
use Rattle.hash_write.proofs.write_number.Given as goal

abbrev pub invariant-loop-x : goal.invariant-loop-x
invariant-loop-x l = Writing l.initial.matches l.p (each (pick l.places l.i l.catalogue l.n) (take l.k l.found)) l.matches l.q (each (pick l.places l.i l.catalogue l.n) (drop l.x-index (take l.k l.found)))
