-- `hash_index::write_image` meets its contract: the near ones are gathered, and then written by number. Assumes nothing.
use mathlib.Core.Path.{◌≡◌}
use native.Mathlib.Omega.{arith}
use lib.ListN.{take}
use Rattle.hash_near.proofs.Near.{near_most}
use Rattle.hash_lanes.specs.Lanes.{hash_at, base_of}
use Rattle.hash_index.specs.Steps.{near_to}
use Rattle.hash_index.proofs.Numbered.{eight_each}
use Rattle.hash_index.proofs.write_image.Goals.{After-gather}
use Rattle.hash_index.proofs.write_image.Goals as goal

pub gather-requires : goal.gather-requires
gather-requires c = record { fact_1 = omega (arith, c.requires); fact_2 = omega (arith, c.requires); fact_3 = omega (arith, c.requires); fact_4 = rw c.base_at.ensures c.requires.fact_2 }

-- the near ones are gathered
gathered : (c : After-gather) → take c.args.near c.gather.new.found ≡ near_to c.args.hashes.now c.args.lanes.now c.args.m c.args.i
gathered c = rw c.base_at.ensures at c.gather.ensures

pub write_quad-requires : goal.write_quad-requires
write_quad-requires c =
    let a = c.args in
    let base = base_of (hash_at a.hashes.now a.i) in
    let e = eight_each a.places.now a.i a.catalogue.now a.lanes.now base a.m (omega (arith, c.requires.fact_1)) in
    let k = near_most a.lanes.now base 0 a.m in
    let s = c.gather.auto.found in record { fact_1 = omega (arith, c.requires.fact_1); fact_2 = omega (arith, c.requires); fact_3 = omega (arith, c.requires); fact_4 = omega (arith, c.requires); fact_5 = rw (gathered (goal.at.write_quad-requires c).After-gather) (omega (arith, c.requires)) }

pub returns : goal.returns
returns c = rw (gathered (goal.at.returns c).After-gather) at c.write_quad.ensures
