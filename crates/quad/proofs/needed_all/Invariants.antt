-- `quad::needed_all` meets its contract. Assumes nothing.
use Prim.Native.Nat.{◌+◌, ◌-◌, ◌*◌, ◌≤◌}
use mathlib.Core.Path.{◌≡◌}
use lib.ListN.{length}
use Rattle.quad_visit.specs.Met.{new_from}
use Rattle.quad_lists.specs.Lists.{rows_of, listed}
use Rattle.quad.specs.Quads.{all_places}
use Rattle.quad.proofs.needed_all.Given as goal

abbrev pub invariant-loop-seed : goal.invariant-loop-seed
invariant-loop-seed l = (l.seed ≤ length l.xs) × (l.m ≤ 480 * l.seed) × (l.m + length (all_places l.xs l.ys l.least (new_from (rows_of l.lists l.c) l.seed (length l.xs - l.seed))) ≡ length (all_places l.xs l.ys l.least (listed l.lists l.c (length l.xs)))) × (length l.store ≡ 120)
