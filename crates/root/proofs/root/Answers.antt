-- `root::root` meets its contract. Assumes nothing.
use mathlib.Core.Path.{◌≡◌, sym, subst}
use mathlib.Core.Logic.{◌⊎◌}
use lib.Dec.{T}
use lib.Ieee.{inf, binary64, fits}
use lib.Ieee.Positive.{positive}
use mathlib.Core.Bool.{false}
use Rattle.floats.proofs.Tests.{is_no_nan}
use Rattle.floats.proofs.Patterns.{pattern, no_nan_bits}
use Rattle.root.proofs.Grid.{is_finite}
use Rattle.root.proofs.Cases.{nan_root, zero_root, negative_root, left, finite_case, inf_case, positive_case}
use Rattle.root.proofs.root.Goals.{Else-x-3, Start, Then-bits-lt9218868437227405312}
use Rattle.root.proofs.root.Goals as goal

-- what owning an f64 tells: the format holds it
held : (c : Start) → T (fits binary64 c.args.x)
held c = subst T (sym c.well_formed.0.1) tt

past : (c : Else-x-3) → (c.args.x ≡ inf false) ⊎ T (positive c.args.x)
past c = left c.args.x c.if-x.false c.if-x-2.false c.if-x-3.false

above : (c : Then-bits-lt9218868437227405312) → T (positive c.args.x)
above c = finite_case c.args.x (past c.before) c.if-bits-lt9218868437227405312.true

pub returns-then-x : goal.returns-then-x
returns-then-x c = let it = nan_root c.args.x c.if-x.true in record { is = it.0; nearest = it.1 }

pub returns-then-x-2 : goal.returns-then-x-2
returns-then-x-2 c = let it = zero_root c.args.x c.if-x-2.true in record { is = it.0; nearest = it.1 }

pub returns-then-x-3 : goal.returns-then-x-3
returns-then-x-3 c = let it = negative_root c.args.x c.if-x-3.true in record { is = it.0; nearest = it.1 }

pub float_to_bits-bits : goal.float_to_bits-bits
float_to_bits-bits c = is_no_nan c.args.x c.if-x.false

pub root_bits-requires : goal.root_bits-requires
root_bits-requires c = ((pattern c.args.x (held c.before.before.before.before) (above c)).some, c.if-bits-lt9218868437227405312.true)

pub float_from_bits-result : goal.float_from_bits-result
float_from_bits-result c = no_nan_bits c.root_bits.result (is_finite c.root_bits.ensures.2)

pub returns-then-bits-lt9218868437227405312 : goal.returns-then-bits-lt9218868437227405312
returns-then-bits-lt9218868437227405312 c = let it = positive_case c.args.x (held c.before.before.before.before.before) (above c.before) c.root_bits.result c.root_bits.ensures in record { is = it.0; nearest = it.1 }

pub returns-else-bits-lt9218868437227405312 : goal.returns-else-bits-lt9218868437227405312
returns-else-bits-lt9218868437227405312 c = let it = inf_case c.args.x (held c.before.before.before.before) (past c.before) c.if-bits-lt9218868437227405312.false in record { is = it.0; nearest = it.1 }
