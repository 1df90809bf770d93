-- `sip_rounds::fit_rounds` meets its contract: what is left of the rounds, from the mask at hand, comes to the whole. Assumes nothing.
use Rattle.sip_rounds.specs.Rounds.{rounds_from}
use Rattle.sip_sums.specs.Field.{field}
use Rattle.rows.specs.Rows.{rows}
use lib.ListN.{length}
use mathlib.Core.Path.{◌≡◌}
use Prim.Native.Nat.{◌≤◌, ◌-◌}
use Rattle.sip_rounds.proofs.fit_rounds.Given as goal

abbrev pub invariant-loop-round : goal.invariant-loop-round
invariant-loop-round l = (rounds_from (field (rows l.px l.py l.xi l.eta) l.snr l.wcs) l.n (10 - l.round) l.mask ≡ rounds_from (field (rows l.px l.py l.xi l.eta) l.snr l.wcs) l.n 10 l.initial.mask) × (l.round ≤ 10) × (length l.mask ≡ length l.px) × (length l.errors ≡ length l.px) × (length l.a ≡ l.n) × (length l.b ≡ l.n) × (length l.initial.mask ≡ length l.px) × (length l.initial.errors ≡ length l.px) × (length l.initial.a ≡ l.n) × (length l.initial.b ≡ l.n)
