-- `index_near::gather_one` meets its contract: the place of an entry whose key is inside is stored after those found, and another is passed over. Assumes nothing.
use Rattle.std.proofs.Common.{length, sym, ap, ◌∙◌, arith}
use Rattle.hash_near.proofs.Near.{one_more, none_more}
use Rattle.index_near.proofs.Ranges.{hit_inside, hit_outside}
use Rattle.index_near.proofs.gather_one.Goals as goal

pub overflow_cast-found : goal.overflow_cast-found
overflow_cast-found c = record { fits = omega (arith, c.requires.fact_1.places c.args.k c.requires.fact_2, c.requires.fact_1.few) }

pub bounds-found-n : goal.bounds-found-n
bounds-found-n c = let a = c.args in omega (arith, ap length (hit_inside a.table.now a.m a.from a.to a.k (sym c.is_inside.ensures ∙ c.if-is_inside.true)), c.requires.fact_5)

pub returns-then-is_inside : goal.returns-then-is_inside
returns-then-is_inside c = let a = c.args in
    let e = hit_inside a.table.now a.m a.from a.to a.k (sym c.is_inside.ensures ∙ c.if-is_inside.true) in
    one_more a.found.now a.n _ _ (omega (arith, ap length e, c.requires.fact_5)) e

pub returns : goal.returns
returns c = let a = c.args in none_more a.found.now a.n _ (hit_outside a.table.now a.m a.from a.to a.k (sym c.is_inside.ensures ∙ c.if-is_inside.false))
