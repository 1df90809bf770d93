-- `verify_affine::fit_places` meets its contract: each test has its own return, then the calls give what the definition names. Assumes nothing.
use borrow.Author.Tests.{lt-ltb, le-ltb}
use Rattle.verify_affine.proofs.fit_places.Goals as goal

pub returns-then-n-a : goal.returns-then-n-a
returns-then-n-a c = rw (le-ltb _ _ c.if-n-a.true)

pub returns-then-n-b : goal.returns-then-n-b
returns-then-n-b c = rw (lt-ltb _ _ c.if-n-a.false, le-ltb _ _ c.if-n-b.true)

pub returns-then-n-c : goal.returns-then-n-c
returns-then-n-c c = rw (lt-ltb _ _ c.if-n-a.false, lt-ltb _ _ c.if-n-b.false, le-ltb _ _ c.if-n-c.true)

pub returns : goal.returns
returns c = rw (lt-ltb _ _ c.if-n-a.false, lt-ltb _ _ c.if-n-b.false, lt-ltb _ _ c.if-n-c.false, ← c.row_at-p.ensures, ← c.row_at-q.ensures, ← c.row_at-r.ensures) c.fit_rows.ensures
