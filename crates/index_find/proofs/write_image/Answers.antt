-- `index_find::write_image` meets its contract: the near places stand where they are kept, or are looked for again. Assumes nothing.
use Rattle.index_find.proofs.Kept.{again}
use Rattle.index_near.specs.Near.{near_hits}
use native.Mathlib.Omega.{arith}
use mathlib.Core.Path.{refl}
use Rattle.index_find.proofs.write_image.Goals as goal

pub returns-then-s-near-le-KEPT : goal.returns-then-s-near-le-KEPT
returns-then-s-near-le-KEPT c = record { matches = rw (c.requires.fact_4 c.if-s-near-le-KEPT.true) at c.write_near.ensures; kept = refl }

pub gather_near-requires : goal.gather_near-requires
gather_near-requires c = record { fact_1 = c.requires.fact_1.ready; fact_2 = omega (arith, c.requires.fact_1.hashed); fact_3 = omega (arith, c.requires.fact_1.near c.args.i, c.requires.fact_1.ready.few, c.requires.fact_2) }

pub write_near-requires-2 : goal.write_near-requires-2
write_near-requires-2 c = record { fact_1 = omega (arith, c.requires.fact_1.few); fact_2 = omega (arith, c.gather_near.auto.found, c.requires.fact_2, c.requires.fact_3, c.requires.fact_1.near c.args.i, c.requires.fact_1.ready.few); fact_3 = c.requires.fact_5 }

pub returns : goal.returns
returns c = let a = c.args in
    let v = c.gather_near in
    let g = again (near_hits a.table.now a.m a.hashes.now a.i) a.kept.now _ v.result (omega (arith, c.requires.fact_2)) v.ensures in record { matches = rw (c.requires.fact_3, g.0) at c.write_near-2.ensures; kept = g.1 }
