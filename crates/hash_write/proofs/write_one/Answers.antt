-- `hash_write::write_one` meets its contract: a match is written where the number is n, and nothing elsewhere. Assumes nothing.
use mathlib.Core.Path.{refl, ap}
use native.Mathlib.Omega.{arith}
use lib.ListN.{length}
use Rattle.hash_write.proofs.Writing.{picked, passed, one_part, no_part}
use Rattle.hash_write.proofs.write_one.Goals as goal

pub returns-then-x-n : goal.returns-then-x-n
returns-then-x-n c = let a = c.args in no_part a.matches.now a.p _ (passed a.places.now a.i a.catalogue.now a.n a.x c.if-x-n.true)

pub write_match-requires : goal.write_match-requires
write_match-requires c =
    let a = c.args in
    let e = ap length (picked a.places.now a.i a.catalogue.now a.n a.x c.if-x-n.false) in record { fact_1 = omega arith; fact_2 = omega arith; fact_3 = omega (arith, c.requires) }

pub overflow_add-result : goal.overflow_add-result
overflow_add-result c =
    let a = c.args in
    let e = ap length (picked a.places.now a.i a.catalogue.now a.n a.x c.if-x-n.false) in
    omega (arith, c.requires)

pub returns : goal.returns
returns c =
    let a = c.args in
    one_part a.matches.now a.p 8 _ _ _ refl (picked a.places.now a.i a.catalogue.now a.n a.x c.if-x-n.false) c.write_match.ensures
