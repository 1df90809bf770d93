-- `cd_near::is_within` meets its contract: the root is the definition's. Assumes nothing.
use Rattle.floats.proofs.Patterns.{no_nan_up_to}
use Rattle.cd_near.proofs.is_within.Goals as goal

pub float_from_bits-bits : goal.float_from_bits-bits
float_from_bits-bits c = no_nan_up_to c.args.bits c.requires

pub returns : goal.returns
returns c = rw c.root.ensures.is
