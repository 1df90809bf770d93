-- `index_find::put_indexed` meets its contract: eight places for each near place that was counted, and the near places give the matches of the plain search. Assumes nothing.
use Rattle.index_find.proofs.Call.{searched, total_most, done}
use Rattle.hash_index.proofs.Call.{no_room}
use Rattle.index_find.proofs.Near.{all_are, all_times, near_most}
use Rattle.hash_index.specs.Matches.{matches_of}
use lib.ListN.{length}
use native.Mathlib.Omega.{arith}
use mathlib.Core.Path.{◌≡◌, ◌∙◌, refl, sym, ap}
use Prim.Native.Nat.{◌*◌, ℕ, ◌/◌}
use borrow.Author.Rules.{rules}
use Rattle.index_find.proofs.put_indexed.Goals.{After-counts-2-1}
use Rattle.index_find.proofs.put_indexed.Goals as goal

pub count_all-total-requires : goal.count_all-total-requires
count_all-total-requires c = let a = c.args in record { fact_1 = searched a.places.now a.hashes.now a.catalogue.now a.others.now a.table.now c.requires.fact_1 c.requires.fact_2; fact_2 = search rules; fact_3 = search rules }

-- eight places for each match that was counted
counted : (c : After-counts-2-1) → length (matches_of c.args.places.now c.args.hashes.now c.args.catalogue.now c.args.others.now) ≡ 8 * c.count_all-total.result
counted c =
    let a = c.args in
    ap length (sym (all_are a.places.now a.hashes.now a.catalogue.now a.others.now a.table.now c.requires.fact_1.few_others c.requires.fact_2))
    ∙ all_times a.places.now a.hashes.now a.catalogue.now a.others.now a.table.now c.requires.fact_1.few_others c.requires.fact_2 (length a.places.now / 4)
    ∙ ap (λ (k : ℕ). 8 * k) (sym c.count_all-total.ensures.total)

pub overflow_mul-total : goal.overflow_mul-total
overflow_mul-total c = let a = c.args in
    omega (arith, c.count_all-total.ensures.total, total_most a.hashes.now a.table.now (length a.catalogue.now / 4) (length a.places.now / 4) c.requires.fact_1.few_others (near_most a.places.now a.hashes.now a.catalogue.now a.others.now a.table.now c.requires.fact_1.few_others c.requires.fact_2), c.requires.fact_1.few)

pub returns-then-matches-total : goal.returns-then-matches-total
returns-then-matches-total c = record { answer = no_room _ _ _ (counted (goal.at.returns-then-matches-total c).After-counts-2-1) c.if-matches-total.true; matches = refl }

pub write_all-requires : goal.write_all-requires
write_all-requires c = let a = c.args in record { searched_1 = searched a.places.now a.hashes.now a.catalogue.now a.others.now a.table.now c.requires.fact_1 c.requires.fact_2; searched_2 = search rules; searched_3 = search rules; searched_4 = c.count_all-total.ensures.counts; held_1 = c.count_all-total.ensures.kept; held_2 = omega (arith, c.count_all-total.ensures.total, c.if-matches-total.false) }

pub returns : goal.returns
returns c = let a = c.args in
    let e = all_are a.places.now a.hashes.now a.catalogue.now a.others.now a.table.now c.requires.fact_1.few_others c.requires.fact_2 in
    done _ (matches_of a.places.now a.hashes.now a.catalogue.now a.others.now) a.matches.now _ (counted (goal.at.returns c).After-counts-2-1) c.if-matches-total.false (rw e at c.write_all.ensures)
