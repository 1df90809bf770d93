-- `quad_face::put_state` meets its contract: a list without room stays, and five stores from the front are what is written. Assumes nothing.
use Rattle.quad_face.specs.Face.{state_bytes}
use Rattle.answer.proofs.Lent.{front}
use lib.ListN.{length-set}
use native.Mathlib.Omega.{arith}
use mathlib.Core.Path.{refl}
use borrow.Author.Tests.{lt-ltb, le-ltb}
use Rattle.quad_face.proofs.put_state.Goals as goal

pub returns-then-out-lt5 : goal.returns-then-out-lt5
returns-then-out-lt5 c = rw (lt-ltb _ _ c.if-out-lt5.true) (record { answer = refl; after = refl })

pub bounds-out-1 : goal.bounds-out-1
bounds-out-1 c = simp length-set (omega arith)

pub bounds-out-2 : goal.bounds-out-2
bounds-out-2 c = simp length-set (omega arith)

pub bounds-out-3 : goal.bounds-out-3
bounds-out-3 c = simp length-set (omega arith)

pub bounds-out-4 : goal.bounds-out-4
bounds-out-4 c = simp length-set (omega arith)

pub returns : goal.returns
returns c =
    let a = c.args in rw (le-ltb _ _ c.if-out-lt5.false, c.byte_of-done.ensures) (record { answer = refl; after = front (state_bytes a.s) a.out.now c.if-out-lt5.false })
