-- `hash_write::write_quad` meets its contract: what is left, written from q on, comes to the whole; while there is more to write, a number is left. Assumes nothing.
use mathlib.Core.Path.{◌≡◌}
use Prim.Native.Nat.{◌+◌, ◌-◌, ◌*◌, ◌≤◌}
use lib.ListN.{take}
use Rattle.hash_near.specs.Over.{over}
use Rattle.hash_write.specs.Write.{of_number, by_number}
use Rattle.hash_write.proofs.Writing.{Writing}
use Rattle.hash_write.proofs.write_quad.Given as goal

abbrev pub invariant-loop-q : goal.invariant-loop-q
invariant-loop-q l = (l.n ≤ 81) × (l.end ≡ l.p + 8 * l.k) × Writing l.initial.matches l.p (by_number l.places l.i l.catalogue (take l.k l.found)) l.matches l.q (over (of_number l.places l.i l.catalogue (take l.k l.found)) l.n (81 - l.n))

abbrev pub decreases-loop-q : goal.decreases-loop-q
decreases-loop-q l = 81 - l.n
