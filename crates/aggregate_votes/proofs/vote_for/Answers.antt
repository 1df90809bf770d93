-- `aggregate_votes::vote_for` meets its contract: the tests of a vote, in their order. Assumes nothing.
use Rattle.aggregate_votes.specs.Table.{misses, cast_vote}
use borrow.Author.Tests.{lt-ltb, le-ltb, le-leb, lt-leb}
use lib.ListN.{get_or}
use native.Mathlib.Omega.{arith}
use mathlib.Core.Path.{refl}
use Prim.Native.Nat.{◌≤◌, ◌<◌}
use Rattle.aggregate_votes.proofs.vote_for.Goals as goal

pub returns-then-images-a : goal.returns-then-images-a
unfolding misses cast_vote
returns-then-images-a c = rw (le-ltb _ _ c.if-images-a.true) (refl, refl)

pub returns-then-col-eq0 : goal.returns-then-col-eq0
unfolding misses cast_vote
returns-then-col-eq0 c = rw (lt-ltb _ _ c.if-images-a.false, ← c.column_at-col.ensures, c.if-col-eq0.true) (refl, refl)

pub returns-then-nd-d : goal.returns-then-nd-d
unfolding misses cast_vote
returns-then-nd-d c =
    let a = c.args in
    let h : a.nd ≤ get_or a.images.now a.a.0 0 = omega (arith, c.if-nd-d.true, c.detection_at-d.ensures) in
    let p : 0 < get_or a.cols.now a.b.0 0 = omega (arith, c.if-col-eq0.false, c.column_at-col.ensures) in
    rw (lt-ltb _ _ c.if-images-a.false, lt-ltb _ _ p, le-leb _ _ h, le-ltb _ _ h) (refl, refl)

pub cast_vote-requires : goal.cast_vote-requires
cast_vote-requires c =
    let e = c.column_at-col.ensures in
    (omega (arith, c.if-nd-d.false, c.requires.fact_1), (omega (arith, c.if-col-eq0.false), (rw e (c.requires.fact_3 _), (c.requires.fact_2, c.requires.fact_4 _))))

pub returns : goal.returns
unfolding misses cast_vote
returns c =
    let a = c.args in
    let e = c.detection_at-d.ensures in
    let f = c.column_at-col.ensures in
    let h : get_or a.images.now a.a.0 0 < a.nd = omega (arith, c.if-nd-d.false, e) in
    let p : 0 < get_or a.cols.now a.b.0 0 = omega (arith, c.if-col-eq0.false, f) in
    rw (lt-ltb _ _ c.if-images-a.false, lt-ltb _ _ p, lt-leb _ _ h, lt-ltb _ _ h) (refl, rw (e, f) at c.cast_vote.ensures)
