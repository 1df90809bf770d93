-- `spine_face::put_two` meets its contract: a list without room stays, and two stores from the front are what is written. Assumes nothing.
use Rattle.answer.proofs.Lent.{front}
use mathlib.Core.List.{[], ◌∷◌}
use mathlib.Core.Path.{refl}
use borrow.Author.Tests.{lt-ltb, le-ltb}
use Rattle.spine_face.proofs.put_two.Goals as goal

pub returns-then-out-lt2 : goal.returns-then-out-lt2
returns-then-out-lt2 c = rw (lt-ltb _ _ c.if-out-lt2.true) (record { answer = refl; after = refl })

pub returns : goal.returns
returns c =
    let a = c.args in rw (le-ltb _ _ c.if-out-lt2.false) (record { answer = refl; after = front (a.a ∷ a.b ∷ []) a.out.now c.if-out-lt2.false })
