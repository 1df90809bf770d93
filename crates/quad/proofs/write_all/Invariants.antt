-- `quad::write_all` meets its contract. Assumes nothing.
use Prim.Native.Nat.{◌-◌, ◌≤◌}
use mathlib.Core.Path.{◌≡◌}
use lib.ListN.{length}
use Rattle.quad_visit.specs.Met.{new_from}
use Rattle.quad_lists.specs.Lists.{rows_of, listed}
use Rattle.quad.proofs.Laws.{Writing}
use Rattle.quad.proofs.write_all.Given as goal

abbrev pub invariant-loop-seed : goal.invariant-loop-seed
invariant-loop-seed l = (l.seed ≤ length l.xs) × Writing l.xs l.ys l.least (listed l.lists l.c (length l.xs)) 0 l.initial.places l.initial.hashes l.places l.hashes l.p (new_from (rows_of l.lists l.c) l.seed (length l.xs - l.seed)) × (length l.store ≡ 120)
