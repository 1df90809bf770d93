-- `cd_plate::Cd::is_finite` meets its contract: the six numbers are tested one by one. Assumes nothing.
use Rattle.cd_plate.specs.Plate.{is_cd}
use Rattle.cd_plate.proofs.Cd.is_finite.Goals as goal

pub returns : goal.returns
unfolding is_cd
returns c =
    rw (
      ← c.is_finite.ensures,
      ← c.is_finite-2.ensures,
      ← c.is_finite-3.ensures,
      ← c.is_finite-4.ensures,
      ← c.is_finite-5.ensures,
      ← c.is_finite-6.ensures,
    )
