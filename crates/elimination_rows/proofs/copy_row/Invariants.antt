-- `elimination_rows::copy_row` meets its contract: the places below k are copied. Assumes nothing.
use Prim.Native.Nat.{◌≤◌}
use mathlib.Core.Path.{◌≡◌}
use lib.Ieee.{nan}
use lib.ListN.{length, get_or}
use Rattle.elimination_rows.proofs.Turns.{Front}
use Rattle.elimination_rows.proofs.copy_row.Given as goal

abbrev pub invariant-loop-k : goal.invariant-loop-k
invariant-loop-k l = Front l.k (λ i. get_or l.from i nan) (λ i. get_or l.initial.to i nan) l.to × (length l.to ≡ length l.from) × (l.k ≤ length l.from) × (l.k-end ≡ length l.from)
