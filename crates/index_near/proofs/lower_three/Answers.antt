-- `index_near::lower_three` meets its contract: three searches halve what is left at once. Assumes nothing.
use Rattle.std.proofs.Common.{refl}
use Rattle.index_near.proofs.Ranges.{halving_all, halving_step, halving_end, three_starts}
use Rattle.index_near.proofs.lower_three.Goals as goal

pub loop-len-init : goal.loop-len-init
loop-len-init c = (halving_all _ _ _, halving_all _ _ _, halving_all _ _ _)

pub loop-len-preserved : goal.loop-len-preserved
loop-len-preserved c = let ready = c.requires.fact_1 in
    let l = c.loop-len.invariant in
    let more = c.loop-len-test.true in
    rw (c.past-a.ensures, c.past-b.ensures, c.past-c.ensures)
    (halving_step ready l.0 more _ refl _ refl, halving_step ready l.1 more _ refl _ refl, halving_step ready l.2 more _ refl _ refl)

pub returns : goal.returns
returns c = let l = c.loop-len.invariant in
    let none = c.loop-len-test.false in (refl, three_starts (halving_end l.0 none) (halving_end l.1 none) (halving_end l.2 none))
