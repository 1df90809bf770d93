-- `cd_pool::pool_of` meets its contract: what is taken, with the places still to come, is the pool. Assumes nothing.
use mathlib.Core.Path.{◌≡◌, refl, ap, ◌∙◌}
use mathlib.Core.Bool.{Bool, true, false, cond}
use mir.Val.{bool_byte}
use Prim.Native.Nat.{◌/◌}
use native.Mathlib.Omega.{arith}
use lib.ListN.{length-set}
use Rattle.cd_pool.specs.Pool.{least_of}
use Rattle.cd_pool.proofs.Pools.{one_le, turn, done, counted}
use Rattle.cd_pool.proofs.pool_of.Goals as goal

-- a test as a number
byte_is : (b : Bool) → bool_byte b ≡ cond b 1 0
byte_is true = refl
byte_is false = refl

pub overflow_add-count : goal.overflow_add-count
overflow_add-count c = omega (arith, byte_is c.is_taken.result, one_le c.is_taken.result)

pub loop-i-preserved : goal.loop-i-preserved
loop-i-preserved c =
    let b = c.is_taken.result in (
      omega (arith, byte_is b, one_le b),
      simp length-set c.loop-i.invariant.1,
      rw (byte_is b) (turn _ c.args.rows c.args.votes.now c.loop-i.i (omega arith) c.loop-i.places c.loop-i.count (omega arith) b c.is_taken.ensures
          ∙ c.loop-i.invariant.2),
    )

pub returns : goal.returns
unfolding least_of
returns c =
    let pool = done _ c.args.rows c.args.votes.now c.loop-i.i (omega arith) _ c.loop-i.invariant.2 (ap (λ x. x / 3) c.greatest_of-least.ensures) in
    (counted c.loop-i.places c.loop-i.count _ (omega arith) pool, pool, omega arith)
