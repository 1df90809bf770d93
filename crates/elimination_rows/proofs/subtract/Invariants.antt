-- `elimination_rows::subtract` meets its contract: the places below k are done, the others as they were. Assumes nothing.
use Prim.Native.Nat.{◌≤◌}
use mathlib.Core.Path.{◌≡◌}
use lib.Ieee.{nan, binary64, sub, mul}
use lib.ListN.{length, get_or}
use Rattle.elimination_rows.proofs.Turns.{Front}
use Rattle.elimination_rows.proofs.subtract.Given as goal

abbrev pub invariant-loop-k : goal.invariant-loop-k
invariant-loop-k l = Front l.k (λ i. sub binary64 (get_or l.initial.row i nan) (mul binary64 l.factor (get_or l.pivot i nan))) (λ i. get_or l.initial.row i nan) l.row × (length l.row ≡ length l.initial.row) × (length l.pivot ≡ length l.initial.row) × (l.k ≤ length l.initial.row) × (l.k-end ≡ length l.pivot)
