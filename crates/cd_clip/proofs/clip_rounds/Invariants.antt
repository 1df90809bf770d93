-- `cd_clip::clip_rounds` meets its contract: with the rounds that are to come, each round comes to the whole clip; its two loops go over the rows as `Loops` says. Assumes nothing.
use mathlib.Core.Path.{◌≡◌}
use Prim.Native.Nat.{◌-◌, ◌≤◌}
use lib.ListN.{length}
use Rattle.rows.specs.Rows.{rows}
use Rattle.cd_clip.specs.Clip.{clip_from}
use Rattle.cd_clip.proofs.Loops.{Summed, Sifted}
use Rattle.cd_clip.proofs.clip_rounds.Given as goal

abbrev pub invariant-loop-i : goal.invariant-loop-i
invariant-loop-i l = Summed (rows l.px l.py l.xi l.eta) l.weights l.mask l.v l.initial.errors l.errors l.sum l.on l.i × (l.i ≤ l.n)

abbrev pub invariant-loop-i-2 : goal.invariant-loop-i-2
invariant-loop-i-2 l = Sifted l.errors l.roots l.initial.mask l.clip l.mask l.any l.left l.i × (l.i ≤ l.n)

abbrev pub invariant-rounds : goal.invariant-rounds
invariant-rounds l = (clip_from (10 - l.counter) (rows l.px l.py l.xi l.eta) l.weights l.mask l.cd ≡ clip_from 10 (rows l.px l.py l.xi l.eta) l.weights l.initial.mask l.initial.cd) × (l.counter ≤ 10) × (length l.mask ≡ length l.px) × (length l.errors ≡ length l.px)
