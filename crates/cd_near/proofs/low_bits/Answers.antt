-- `cd_near::low_bits` meets its contract: a pattern that is not within is replaced by that of zero, which is. Assumes nothing.
use Rattle.cd_near.proofs.Ends.{zero_within}
use mathlib.Core.Path.{◌∙◌, sym}
use native.Mathlib.Omega.{arith}
use Rattle.cd_near.proofs.low_bits.Goals as goal

pub returns-then-is_within : goal.returns-then-is_within
returns-then-is_within c = (omega arith, sym c.is_within.ensures ∙ c.if-is_within.true)

pub returns : goal.returns
returns c = (omega arith, zero_within c.args.limit c.requires.fact_1)
