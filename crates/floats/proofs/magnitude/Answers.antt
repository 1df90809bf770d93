-- `floats::magnitude` meets its contract. Assumes nothing.
use mathlib.Core.Path.{sym, subst}
use lib.Dec.{T}
use lib.Ieee.{binary64, fits}
use Rattle.floats.proofs.Tests.{differs, is_no_nan}
use Rattle.floats.proofs.Signs.{nan_magnitude, cleared, cleared_bits}
use Rattle.floats.proofs.magnitude.Goals.{Start}
use Rattle.floats.proofs.magnitude.Goals as goal

-- what owning an f64 tells: the format holds it
held : (c : Start) → T (fits binary64 c.args.x)
held c = subst T (sym c.well_formed.0.1) tt

pub float_to_bits-result : goal.float_to_bits-result
float_to_bits-result c = is_no_nan c.args.x (differs c.args.x c.if-x.true)

pub float_from_bits-result : goal.float_from_bits-result
float_from_bits-result c = cleared_bits c.args.x (held c.before) (differs c.args.x c.if-x.true)

pub returns-then-x : goal.returns-then-x
returns-then-x c = cleared c.args.x (held c.before)

pub returns : goal.returns
returns c = nan_magnitude c.args.x (differs c.args.x c.if-x.false)
