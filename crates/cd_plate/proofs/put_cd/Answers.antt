-- `cd_plate::put_cd` meets its contract: a list without room stays, and six stores from the front are what is written. Assumes nothing.
use lib.ListN.{length-set}
use native.Mathlib.Omega.{arith}
use mathlib.Core.Path.{refl}
use borrow.Author.Tests.{lt-ltb, le-ltb}
use Rattle.answer.proofs.Lent.{front}
use Rattle.cd_plate.specs.Six.{cd_numbers}
use Rattle.cd_plate.proofs.put_cd.Goals as goal

pub returns-then-out-lt6 : goal.returns-then-out-lt6
returns-then-out-lt6 c = rw (lt-ltb _ _ c.if-out-lt6.true) (record { answer = refl; after = refl })

pub bounds-out-1 : goal.bounds-out-1
bounds-out-1 c = simp length-set (omega arith)

pub bounds-out-2 : goal.bounds-out-2
bounds-out-2 c = simp length-set (omega arith)

pub bounds-out-3 : goal.bounds-out-3
bounds-out-3 c = simp length-set (omega arith)

pub bounds-out-4 : goal.bounds-out-4
bounds-out-4 c = simp length-set (omega arith)

pub bounds-out-5 : goal.bounds-out-5
bounds-out-5 c = simp length-set (omega arith)

pub returns : goal.returns
returns c = rw (le-ltb _ _ c.if-out-lt6.false) (record { answer = refl; after = front (cd_numbers c.args.m) c.args.out.now c.if-out-lt6.false })
