-- `record_program::put_numbers` meets its contract: the loop's invariant: what is put, and the lines of the coefficients that are left, come to the whole; and the next term is at hand. Assumes nothing.
use native.Mathlib.Omega.{arith}
use Rattle.sip_terms.proofs.Places.{low_term, term_more}
use Rattle.sip_terms.specs.Terms.{term_at}
use Rattle.record_program.proofs.Texts.{all_more, all_none}
use Rattle.put.proofs.Writing.{going_start, going_step, going_end, going_room, room_first, same_rest}
use Rattle.record_program.proofs.put_numbers.Goals as goal

pub loop-c-init : goal.loop-c-init
unfolding term_at
loop-c-init c = (rw c.first-t.ensures going_start, c.first-t.ensures)

pub put_number-m-requires : goal.put_number-m-requires
put_number-m-requires c = let l = c.loop-c in (omega (arith, low_term l.t l.c-index l.invariant.1 (omega arith)), room_first _ (going_room c.requires.1 (same_rest (all_more _ _ _ _ _ c.loop-c-test.true) l.invariant.0)))

pub next-t-requires : goal.next-t-requires
next-t-requires c = let l = c.loop-c in omega (arith, low_term l.t l.c-index l.invariant.1 (omega arith))

pub loop-c-preserved : goal.loop-c-preserved
loop-c-preserved c = let l = c.loop-c in (rw c.next-t.ensures (going_step (same_rest (all_more _ _ _ _ _ c.loop-c-test.true) l.invariant.0) c.put_number-m.ensures), term_more l.t c.next-t.result l.c-index l.invariant.1 c.next-t.ensures)

pub shape_of-buf : goal.shape_of-buf
shape_of-buf c = c.loop-c.invariant.0.long

pub returns : goal.returns
returns c = going_end (same_rest (all_none _ _ _ _ c.loop-c-test.false) c.loop-c.invariant.0)
