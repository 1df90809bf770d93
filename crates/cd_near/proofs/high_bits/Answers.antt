-- `cd_near::high_bits` meets its contract: a pattern that is within is replaced by that of the infinity, which is not. Assumes nothing.
use Rattle.cd_near.proofs.Ends.{infinity_past}
use mathlib.Core.Path.{◌∙◌, sym}
use native.Mathlib.Omega.{arith}
use Rattle.cd_near.proofs.high_bits.Goals as goal

pub returns-then-is_within : goal.returns-then-is_within
returns-then-is_within c = (c.requires.fact_2, omega arith, infinity_past c.args.limit c.requires.fact_1)

pub returns : goal.returns
returns c = (omega arith, c.requires.fact_2, sym c.is_within.ensures ∙ c.if-is_within.false)
