-- `sip_sums::put_sums` meets its contract: after k rows the sums are those of the first k lines. Assumes nothing.
use Rattle.sip_sums.specs.Steps.{sums_in}
use Rattle.elimination_rows.specs.Holds.{Holds}
use Rattle.elimination_rows.specs.Matrix.{cells}
use lib.ListN.{length}
use mathlib.Core.Path.{◌≡◌}
use Prim.Native.Nat.{◌≤◌, ◌+◌, ◌*◌}
use Rattle.sip_sums.proofs.put_sums.Given as goal

abbrev pub invariant-loop-k : goal.invariant-loop-k
invariant-loop-k l = Holds l.m l.n (l.n + 2) (sums_in (cells l.lines (l.n + 2)) l.snr l.mask l.k) × (length l.m ≡ l.n * (l.n + 2)) × (l.k ≤ length l.snr) × (l.k-end ≡ length l.snr) × (length l.initial.m ≡ l.n * (l.n + 2)) × (length l.lines ≡ length l.snr * (l.n + 2)) × (l.n ≤ 18)
