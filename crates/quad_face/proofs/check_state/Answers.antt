-- `quad_face::check_state` meets its contract: each return stands for the tests that led there. Assumes nothing.
use borrow.Author.Tests.{lt-ltb, le-ltb, eq-eqb, ne_eqb, not-true, not-false}
use mathlib.Core.Path.{ap}
use mathlib.Core.Bool.{not}
use Rattle.quad_face.proofs.check_state.Goals as goal

pub returns-then-n-gt100 : goal.returns-then-n-gt100
returns-then-n-gt100 c = rw (lt-ltb _ _ c.if-n-gt100.true)

pub returns-then-bytes-ne5 : goal.returns-then-bytes-ne5
returns-then-bytes-ne5 c = rw (le-ltb _ _ c.if-n-gt100.false, ne_eqb _ _ c.if-bytes-ne5.true)

pub returns-then-not-is_mask_byte : goal.returns-then-not-is_mask_byte
returns-then-not-is_mask_byte c = rw (le-ltb _ _ c.if-n-gt100.false, eq-eqb _ _ c.if-bytes-ne5.false, ← c.is_mask_byte.ensures, not-true c.is_mask_byte.result (ap not c.if-not-is_mask_byte.true))

pub returns : goal.returns
returns c = rw (le-ltb _ _ c.if-n-gt100.false, eq-eqb _ _ c.if-bytes-ne5.false, ← c.is_mask_byte.ensures, not-false c.is_mask_byte.result (ap not c.if-not-is_mask_byte.false))
