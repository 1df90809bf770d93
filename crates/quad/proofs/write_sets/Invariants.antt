-- `quad::write_sets` meets its contract. Assumes nothing.
use Prim.Native.Nat.{◌-◌, ◌≤◌}
use lib.ListN.{take, drop}
use Rattle.quad.proofs.Laws.{Writing}
use Rattle.quad.proofs.write_sets.Given as goal

abbrev pub invariant-loop-i : goal.invariant-loop-i
invariant-loop-i l = (l.i ≤ l.n) × Writing l.xs l.ys l.least (take l.n l.store) l.p l.initial.places l.initial.hashes l.places l.hashes l.at (drop l.i (take l.n l.store))
