-- `digits::put_hex` meets its contract: the loop's invariant: the digits that are left, put after those that are there, come to the whole.
use mathlib.Core.Path.{◌≡◌, ◌∙◌}
use native.Mathlib.Omega.{arith}
use Rattle.digits.specs.Digits.{hex_from}
use Rattle.digits.proofs.Hex.{hex_step, length_hex}
use Rattle.digits.proofs.put_hex.Goals as goal

pub bounds-buf-p : goal.bounds-buf-p
bounds-buf-p c = omega (arith, length_hex 16 c.args.n)

pub loop-k-preserved : goal.loop-k-preserved
loop-k-preserved c =
    (rw c.hex_digit.ensures (hex_step _ _ _ _ c.loop-k-test.true ∙ c.loop-k.invariant.0), omega arith)

pub returns : goal.returns
unfolding hex_from
returns c =
    let e : c.loop-k.k ≡ 0 = omega arith in
    record { next_is = omega (arith, length_hex 16 c.args.n); new_is = rw e at c.loop-k.invariant.0 }
