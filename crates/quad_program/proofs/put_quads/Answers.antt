-- `quad_program::put_quads` meets its contract: the loop's invariant: what is put, and the lines of the quads that are left, come to the whole; and each quad took at most 42 bytes.
use Rattle.quad_program.proofs.Printing.{lines_more, lines_none, lines_start}
use Rattle.put.proofs.Writing.{going_start, going_step, going_end, same_rest}
use native.Mathlib.Omega.{arith}
use Rattle.quad_program.proofs.put_quads.Goals as goal

pub loop-i-init : goal.loop-i-init
loop-i-init c = (same_rest (lines_start _ _ _) going_start, omega arith)

pub put_quad-m-requires : goal.put_quad-m-requires
put_quad-m-requires c = (omega (arith, c.loop-i.invariant.0.long), omega arith, omega arith)

pub loop-i-preserved : goal.loop-i-preserved
loop-i-preserved c = (going_step (same_rest (lines_more _ _ _ _ c.loop-i-test.true) c.loop-i.invariant.0) c.put_quad-m.ensures.0, omega (arith, c.put_quad-m.ensures.1))

pub shape_of-buf : goal.shape_of-buf
shape_of-buf c = c.loop-i.invariant.0.long

pub returns : goal.returns
returns c = (going_end (same_rest (lines_none _ _ _ _ c.loop-i-test.false) c.loop-i.invariant.0), omega arith)
