-- `cd_near::last_within` meets its contract: one end stays within the limit and the other past it until nothing is between them. Assumes nothing.
use Rattle.floats.proofs.Ranks.{next_pattern}
use Rattle.floats.proofs.Patterns.{no_nan_up_to}
use mathlib.Core.Path.{◌≡◌, ◌∙◌, sym}
use Prim.Native.Nat.{◌+◌}
use native.Mathlib.Omega.{arith}
use borrow.Author.Rules.{rules}
use Rattle.cd_near.proofs.last_within.Goals as goal

pub loop-past-preserved-then-is_within : goal.loop-past-preserved-then-is_within
loop-past-preserved-then-is_within c = (omega arith, omega arith, sym c.is_within.ensures ∙ c.if-is_within.true, search rules)

pub loop-past-preserved : goal.loop-past-preserved
loop-past-preserved c = (omega arith, omega arith, search rules, sym c.is_within.ensures ∙ c.if-is_within.false)

pub float_from_bits-result : goal.float_from_bits-result
float_from_bits-result c = no_nan_up_to _ (omega arith)

pub returns : goal.returns
returns c =
    let l = c.loop-past in
    let side : l.within + 1 ≡ l.past = omega arith in
    record {
      within = l.invariant.2;
      past = rw (next_pattern l.within (omega arith), side) l.invariant.3;
    }
