-- `spine_face::put_quad` meets its contract: either list without room leaves both, else both are written. Assumes nothing.
use mathlib.Core.Path.{refl}
use borrow.Author.Tests.{lt-ltb, le-ltb}
use Rattle.spine_face.proofs.put_quad.Goals as goal

pub returns-then-hash-lt4 : goal.returns-then-hash-lt4
returns-then-hash-lt4 c = rw (lt-ltb _ _ c.if-hash-lt4.true) (record { answer = refl; hash = refl; places = refl })

pub returns : goal.returns
returns c =
    let told = c.in_ok-put_four.was in rw (le-ltb _ _ c.if-hash-lt4.false, ← c.put_four.ensures.answer, told) (record { answer = refl; hash = c.put_hash.ensures; places = rw (← c.put_four.ensures.answer, told) at c.put_four.ensures.after })
