-- `index_find::write_all` meets its contract: what is left, written from the next image quad on, comes to the whole. Assumes nothing.
use Rattle.index_find.specs.Steps.{image_matches}
use Rattle.hash_write.proofs.Writing.{Writing}
use Rattle.index_near.specs.Near.{near_hits}
use Rattle.hash_near.specs.Over.{over}
use lib.ListN.{length, take}
use mathlib.Core.Path.{◌≡◌}
use Prim.Native.Nat.{◌≤◌, ◌-◌, ◌*◌}
use Rattle.index_find.proofs.write_all.Given as goal

abbrev pub invariant-loop-i : goal.invariant-loop-i
invariant-loop-i l = (l.i ≤ l.n) × (length l.kept ≡ 60000) × (take 48000 l.kept ≡ take 48000 l.initial.kept) × (l.s ≡ length (over (near_hits l.table l.m l.hashes) 0 l.i)) × Writing l.initial.matches 0 (over (image_matches l.places l.hashes l.catalogue l.table l.m) 0 l.n) l.matches (8 * l.s) (over (image_matches l.places l.hashes l.catalogue l.table l.m) l.i (l.n - l.i))
