-- `spine_face::put_four` meets its contract: a list without room stays, and four stores from the front are what is written. Assumes nothing.
use Rattle.answer.proofs.Lent.{front}
use mathlib.Core.List.{[], ◌∷◌}
use lib.ListN.{length-set}
use native.Mathlib.Omega.{arith}
use mathlib.Core.Path.{refl}
use borrow.Author.Tests.{lt-ltb, le-ltb}
use Rattle.spine_face.proofs.put_four.Goals as goal

pub returns-then-out-lt4 : goal.returns-then-out-lt4
returns-then-out-lt4 c = rw (lt-ltb _ _ c.if-out-lt4.true) (record { answer = refl; after = refl })

pub bounds-out-1 : goal.bounds-out-1
bounds-out-1 c = simp length-set (omega arith)

pub bounds-out-2 : goal.bounds-out-2
bounds-out-2 c = simp length-set (omega arith)

pub bounds-out-3 : goal.bounds-out-3
bounds-out-3 c = simp length-set (omega arith)

pub returns : goal.returns
returns c =
    let a = c.args in rw (le-ltb _ _ c.if-out-lt4.false) (record { answer = refl; after = front (a.a ∷ a.b ∷ a.c ∷ a.d ∷ []) a.out.now c.if-out-lt4.false })
