-- `sip_terms::term_count` meets its contract: before total the terms of the lower degrees are counted. Assumes nothing.
use Rattle.sip_terms.specs.Terms.{count_to}
use mathlib.Core.Path.{◌≡◌}
use Prim.Native.Nat.{◌≤◌, ◌-◌, ◌*◌}
use Rattle.sip_terms.proofs.term_count.Given as goal

abbrev pub invariant-loop-total : goal.invariant-loop-total
invariant-loop-total l = (l.n ≡ count_to (l.total - 2)) × (l.n ≤ 11 * (l.total - 2))
