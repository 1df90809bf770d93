-- `hash_index::put_matches` meets its contract: eight places for each near quad are the matches. Assumes nothing.
use borrow.Author.Rules.{rules}
use mathlib.Core.Path.{◌≡◌, refl, sym, ap, ◌∙◌}
use Prim.Native.Nat.{ℕ, ◌*◌, ◌/◌}
use native.Mathlib.Omega.{arith}
use lib.ListN.{length}
use Rattle.hash_index.specs.Matches.{matches_of}
use Rattle.hash_index.proofs.Call.{no_room, done}
use Rattle.hash_index.proofs.Numbered.{eight_all, all_are, total_most}
use Rattle.hash_index.proofs.put_matches.Goals.{After-counts-2-1}
use Rattle.hash_index.proofs.put_matches.Goals as goal

-- eight places for each match that was counted
counted : (c : After-counts-2-1) → length (matches_of c.args.places.now c.args.hashes.now c.args.catalogue.now c.args.others.now) ≡ 8 * c.count_all-total.result
counted c =
    let a = c.args in
    let few = c.requires.few_others in
    let lanes = c.fill_lanes.new.lanes in
    ap length (sym (all_are a.places.now a.hashes.now a.catalogue.now a.others.now lanes few c.fill_lanes.ensures))
    ∙ eight_all a.places.now a.hashes.now a.catalogue.now lanes (length a.catalogue.now / 4) (length a.places.now / 4) few
    ∙ ap (λ (k : ℕ). 8 * k) (sym c.count_all-total.ensures.0)

pub overflow_mul-total : goal.overflow_mul-total
overflow_mul-total c = omega (arith, c.count_all-total.ensures.0, total_most c.args.hashes.now c.fill_lanes.new.lanes (length c.args.catalogue.now / 4) (length c.args.places.now / 4) c.requires.few_others, c.requires.few)

pub returns-then-matches-total : goal.returns-then-matches-total
returns-then-matches-total c = (no_room _ _ _ (counted (goal.at.returns-then-matches-total c).After-counts-2-1) c.if-matches-total.true, refl)

pub write_all-requires : goal.write_all-requires
write_all-requires c =
    let a = c.args in
    let pre = c.requires in
    let lanes = c.fill_lanes.new.lanes in
    let e = eight_all a.places.now a.hashes.now a.catalogue.now lanes (length a.catalogue.now / 4) (length a.places.now / 4) pre.few_others in record { fact_1 = record { hashed = omega (arith, pre.same); few = pre.few; room = search rules; few_others = pre.few_others }; fact_2 = search rules; fact_3 = c.count_all-total.ensures.1; fact_4 = search rules; fact_5 = omega (arith, c.count_all-total.ensures.0, c.if-matches-total.false) }

pub returns : goal.returns
returns c =
    let a = c.args in
    let lanes = c.fill_lanes.new.lanes in
    let e = all_are a.places.now a.hashes.now a.catalogue.now a.others.now lanes c.requires.few_others c.fill_lanes.ensures in
    done _ (matches_of a.places.now a.hashes.now a.catalogue.now a.others.now) a.matches.now _ (counted (goal.at.returns c).After-counts-2-1) c.if-matches-total.false (rw e at c.write_all.ensures)
