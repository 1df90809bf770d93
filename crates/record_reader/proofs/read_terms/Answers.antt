-- `record_reader::read_terms` meets its contract: the loop's invariant: the numbers that were filled in, with those of the terms that are left, are all of them. Assumes nothing.
use Rattle.record_reader.proofs.Laws.{filling_start, filling_step, filling_end}
use Rattle.record_format.specs.Formats.{solved_by}
use Rattle.sip_terms.proofs.Places.{low_term, term_more}
use Rattle.sip_terms.specs.Terms.{term_at}
use lib.ListN.{length-set}
use mathlib.Core.Path.{refl, ap, ◌∙◌}
use native.Mathlib.Omega.{arith}
use Rattle.record_reader.proofs.read_terms.Goals as goal

pub loop-x-init : goal.loop-x-init
unfolding term_at
loop-x-init c = (filling_start _ _ _ _ _ _ _ c.first-t.ensures, c.first-t.ensures, omega arith, refl)

pub term_line-l-requires : goal.term_line-l-requires
term_line-l-requires c = let l = c.loop-x in (omega (arith, low_term l.t l.x-index l.invariant.1 (omega arith)), omega arith)

pub next-t-requires : goal.next-t-requires
next-t-requires c = let l = c.loop-x in omega (arith, low_term l.t l.x-index l.invariant.1 (omega arith))

pub loop-x-preserved : goal.loop-x-preserved
loop-x-preserved c =
    let l = c.loop-x in
    let f = c.of-format.result in
    let x = c.solved.ensures ∙ ap (solved_by f) c.of_bits.ensures in
    let e = c.term_line-l.ensures in
    (filling_step (solved_by f) _ _ _ _ l.x-items _ l.t _ l.x-index _ _ (omega arith) (omega arith) e.0 x c.next-t.ensures l.invariant.0, term_more l.t _ l.x-index l.invariant.1 c.next-t.ensures, omega (arith, e.1), simp length-set l.invariant.3)

pub returns : goal.returns
returns c =
    let l = c.loop-x in
    let f = c.of-format in
    let e = filling_end (solved_by f.result) _ _ _ _ l.x-items _ l.t l.x-index l.invariant.3 (omega arith) l.invariant.0 in
    (e.0, rw (← f.ensures) e.1, omega arith)
