-- `affine::count_near` meets its contract: after i rows the count is that of the first i. Assumes nothing.
use Rattle.affine.proofs.Laws.{one_at_most}
use Rattle.affine.specs.Affine.{near_rows}
use lib.ListN.{length}
use mir.Val.{bool_byte}
use mathlib.Core.Bool.{Bool, true, false, cond}
use native.Mathlib.Omega.{arith}
use native.Mathlib.Numerals.{add-one}
use mathlib.Core.Path.{◌≡◌, refl}
use borrow.Author.Rules.{rules}
use Rattle.affine.proofs.count_near.Goals as goal

-- a test as a number
byte_is : (b : Bool) → bool_byte b ≡ cond b 1 0
byte_is true = refl
byte_is false = refl

pub loop-i-init : goal.loop-i-init
unfolding near_rows
loop-i-init c = search rules

pub overflow_add-count : goal.overflow_add-count
overflow_add-count c = omega (arith, byte_is c.is_near.result, one_at_most c.is_near.result)

pub loop-i-preserved : goal.loop-i-preserved
unfolding near_rows
loop-i-preserved c =
    let l = c.loop-i in (
      search rules,
      search rules,
      omega (arith, byte_is c.is_near.result, one_at_most c.is_near.result),
      rw (add-one l.i, byte_is c.is_near.result, c.is_near.ensures, c.row_at.ensures, l.invariant.3),
    )

pub returns : goal.returns
returns c =
    let l = c.loop-i in
    let e : l.i ≡ length c.args.px.now = omega arith in
    rw (← e) l.invariant.3
