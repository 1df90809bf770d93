-- `index_find::write_near` meets its contract: what is left, written from q on, comes to the whole. Assumes nothing.
use Rattle.hash_write.proofs.Writing.{Writing}
use Rattle.hash_write.specs.Write.{eight}
use Rattle.hash_near.specs.Over.{each}
use lib.ListN.{take, drop}
use mathlib.Core.Path.{◌≡◌}
use Prim.Native.Nat.{◌≤◌, ◌+◌, ◌*◌}
use Rattle.index_find.proofs.write_near.Given as goal

abbrev pub invariant-loop-t : goal.invariant-loop-t
invariant-loop-t l = (l.t ≤ l.near) × (l.q ≡ l.p + 8 * l.t) × Writing l.initial.matches l.p (each (eight l.places l.i l.catalogue) (take l.near (drop l.from l.kept))) l.matches l.q (each (eight l.places l.i l.catalogue) (drop l.t (take l.near (drop l.from l.kept))))
