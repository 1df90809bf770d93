-- `cd_normal::check_lengths` meets its contract: each test has its own return. Assumes nothing.
use Prim.Native.Nat.{◌*◌}
use mathlib.Core.Bool.{◌&&◌}
use native.Mathlib.Omega.{arith}
use lib.Dec.{eqb}
use borrow.Author.Tests.{not-true, not-false, lt-ltb, le-ltb}
use Rattle.cd_normal.proofs.Done.{square}
use Rattle.cd_normal.specs.Normal.{tests_answer}
use mathlib.Core.Path.{ap}
use mathlib.Core.Bool.{not}
use Rattle.cd_normal.proofs.check_lengths.Goals as goal

pub returns-then-n-gt-MOST_UNKNOWNS : goal.returns-then-n-gt-MOST_UNKNOWNS
unfolding tests_answer
returns-then-n-gt-MOST_UNKNOWNS c = rw (lt-ltb _ _ c.if-n-gt-MOST_UNKNOWNS.true)

pub overflow_mul-n : goal.overflow_mul-n
overflow_mul-n c = omega (arith, square c.args.n c.if-n-gt-MOST_UNKNOWNS.false)

pub returns-then-not-a-n : goal.returns-then-not-a-n
unfolding tests_answer
returns-then-not-a-n c =
    let a = c.args in
    rw (le-ltb _ _ c.if-n-gt-MOST_UNKNOWNS.false, not-true (eqb a.a (a.n * a.n) && eqb a.b a.n) (ap not c.if-not-a-n.true))

pub returns : goal.returns
unfolding tests_answer
returns c =
    let a = c.args in
    rw (le-ltb _ _ c.if-n-gt-MOST_UNKNOWNS.false, not-false (eqb a.a (a.n * a.n) && eqb a.b a.n) (ap not c.if-not-a-n.false)) c.room_for.ensures
