-- `sip_sums::add_scaled` meets its contract: the places below k are done, the others as they were. Assumes nothing.
use Rattle.elimination_rows.proofs.Turns.{Front}
use Rattle.floats.specs.Rounded.{◌⊕◌, ◌⊗◌}
use lib.Ieee.{nan}
use lib.ListN.{length, get_or}
use mathlib.Core.Path.{◌≡◌}
use Prim.Native.Nat.{◌≤◌}
use Rattle.sip_sums.proofs.add_scaled.Given as goal

abbrev pub invariant-loop-k : goal.invariant-loop-k
invariant-loop-k l = Front l.k (λ i. get_or l.initial.row i nan ⊕ l.factor ⊗ get_or l.line i nan) (λ i. get_or l.initial.row i nan) l.row × (length l.row ≡ length l.initial.row) × (length l.line ≡ length l.initial.row) × (l.k ≤ length l.initial.row) × (l.k-end ≡ length l.line)
