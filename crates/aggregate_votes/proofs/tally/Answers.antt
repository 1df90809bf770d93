-- `aggregate_votes::tally` meets its contract: the table has the votes of the first m matches. Assumes nothing.
use Rattle.aggregate_votes.proofs.Cells.{start, stepped, column_le, ended}
use Rattle.aggregate_votes.specs.Votes.{ids}
use native.Mathlib.Omega.{arith}
use Rattle.aggregate_votes.proofs.tally.Goals as goal

pub loop-m-init : goal.loop-m-init
loop-m-init c = start _ _ _ _ _ c.requires.fact_5

pub vote_match-bad-requires : goal.vote_match-bad-requires
vote_match-bad-requires c =
    let a = c.args in
    let t = c.loop-m.invariant in record { m_in_bounds_1 = omega arith; m_in_bounds_2 = omega (arith, c.requires.fact_1); m_in_bounds_3 = c.requires.fact_4; m_in_bounds_4 = t.long; by_index_1 = λ j. rw (c.columns-cols.ensures j) (let x = column_le a.catalogue.now a.results.now j in omega (arith, c.requires.fact_3)); by_index_2 = t.cells }

pub loop-m-preserved : goal.loop-m-preserved
loop-m-preserved c =
    let a = c.args in
    let l = c.loop-m in
    let v = c.vote_match-bad in
    stepped a.images.now c.columns-cols.result a.nd a.matches.now l.table v.new.table l.bad v.result l.m l.invariant v.auto.table v.ensures

pub returns : goal.returns
returns c =
    let a = c.args in
    let l = c.loop-m in let it = ended (ids a.images.now a.catalogue.now a.results.now) c.columns-cols.result a.nd a.matches.now l.table l.bad l.m c.columns-cols.ensures c.requires.fact_4 c.requires.fact_3 (omega (arith, c.loop-m-test.false)) l.invariant in record { missing = it.0; votes = it.1 }
