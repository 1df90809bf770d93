-- `aggregate_votes::vote_match` meets its contract: its four votes go to the table one by one. Assumes nothing.
use Rattle.aggregate_votes.specs.Votes.{vote}
use Rattle.aggregate_votes.proofs.Cells.{cast_le, four}
use lib.ListN.{get_or}
use native.Mathlib.Omega.{arith}
use mathlib.Core.Path.{◌∙◌}
use Prim.Native.Nat.{◌+◌, ◌*◌, ℕ}
use Rattle.aggregate_votes.proofs.vote_match.Goals as goal

pub vote_for-p-requires : goal.vote_for-p-requires
vote_for-p-requires c = record { fact_1 = c.requires.m_in_bounds_3; fact_2 = c.requires.m_in_bounds_4; fact_3 = c.requires.by_index_1; fact_4 = λ s. let x = c.requires.by_index_2 s in omega (arith, c.requires.m_in_bounds_2) }

pub vote_for-q-requires : goal.vote_for-q-requires
vote_for-q-requires c =
    let p = c.vote_for-p in
    let h = cast_le _ _ _ _ _ _ _ p.ensures.1 c.requires.by_index_2 in record { fact_1 = c.requires.m_in_bounds_3; fact_2 = p.auto.table ∙ c.requires.m_in_bounds_4; fact_3 = c.requires.by_index_1; fact_4 = λ s. let x = h s in omega (arith, c.requires.m_in_bounds_2) }

pub vote_for-r-requires : goal.vote_for-r-requires
vote_for-r-requires c =
    let p = c.vote_for-p in
    let q = c.vote_for-q in
    let h = cast_le _ _ _ _ _ _ _ q.ensures.1 (cast_le _ _ _ _ _ _ _ p.ensures.1 c.requires.by_index_2) in record { fact_1 = c.requires.m_in_bounds_3; fact_2 = q.auto.table ∙ p.auto.table ∙ c.requires.m_in_bounds_4; fact_3 = c.requires.by_index_1; fact_4 = λ s. let x = h s in omega (arith, c.requires.m_in_bounds_2) }

pub vote_for-s-requires : goal.vote_for-s-requires
vote_for-s-requires c =
    let p = c.vote_for-p in
    let q = c.vote_for-q in
    let u = c.vote_for-r in
    let h = cast_le _ _ _ _ _ _ _ u.ensures.1 (cast_le _ _ _ _ _ _ _ q.ensures.1 (cast_le _ _ _ _ _ _ _ p.ensures.1 c.requires.by_index_2)) in record { fact_1 = c.requires.m_in_bounds_3; fact_2 = u.auto.table ∙ q.auto.table ∙ p.auto.table ∙ c.requires.m_in_bounds_4; fact_3 = c.requires.by_index_1; fact_4 = λ s. let x = h s in omega (arith, c.requires.m_in_bounds_2) }

pub returns : goal.returns
returns c =
    let a = c.args in
    let b : ℕ → ℕ = λ k. get_or a.matches.now k 0 in
    let i = 8 * a.m in
    let p = c.vote_for-p in
    let q = c.vote_for-q in
    let r = c.vote_for-r in
    let s = c.vote_for-s in
    four a.images.now a.cols.now a.nd (vote (b i) (b (i + 4))) (vote (b (i + 1)) (b (i + 5))) (vote (b (i + 2)) (b (i + 6))) (vote (b (i + 3)) (b (i + 7))) a.table.now p.new.table q.new.table r.new.table s.new.table p.result q.result r.result s.result p.ensures q.ensures r.ensures s.ensures
