-- `hash_index::write_all` meets its contract: what is left, written from p on, comes to the whole. Assumes nothing.
use mathlib.Core.Path.{◌≡◌}
use Prim.Native.Nat.{◌-◌, ◌≤◌}
use lib.ListN.{length}
use Rattle.hash_write.proofs.Writing.{Writing}
use Rattle.hash_near.specs.Over.{over}
use Rattle.hash_index.specs.Steps.{near_matches}
use Rattle.hash_index.proofs.write_all.Given as goal

abbrev pub invariant-loop-i : goal.invariant-loop-i
invariant-loop-i l = (l.i ≤ l.n) × (length l.found ≡ 12000) × Writing l.initial.matches 0 (over (near_matches l.places l.hashes l.catalogue l.lanes l.m) 0 l.n) l.matches l.p (over (near_matches l.places l.hashes l.catalogue l.lanes l.m) l.i (l.n - l.i))
