-- `root::root_whole` meets its contract: a guess that passes is half of the digits, and else they are taken one by one. Assumes nothing.
use native.Mathlib.Omega.{arith}
use native.Mathlib.Nat.{mul-le-mul}
use mathlib.Core.Path.{◌≡◌, subst}
use Prim.Native.Nat.{ℕ, ◌+◌, ◌-◌, ◌*◌, ◌≤◌}
use Rattle.root.proofs.Divided.{IsWhole, guessed, guess_sum}
use Rattle.root.proofs.root_whole.Goals as goal

pub guess-requires : goal.guess-requires
guess-requires c = c.requires.fact_2

pub lowered-a-requires : goal.lowered-a-requires
lowered-a-requires c = c.guess.ensures

pub overflow_mul-s : goal.overflow_mul-s
overflow_mul-s c =
    let a = c.lowered-a.result in
    let h : a ≤ 134217728 = omega (arith, c.lowered-a.ensures) in
    let k : a * a ≤ 134217728 * 134217728 = mul-le-mul h h in
    omega arith

pub root_digits-requires : goal.root_digits-requires
root_digits-requires c = c.requires.fact_1

pub returns-then-a-lt67108864 : goal.returns-then-a-lt67108864
returns-then-a-lt67108864 c = c.root_digits.ensures

pub root_digits-requires-then-m-s : goal.root_digits-requires-then-m-s
root_digits-requires-then-m-s c = c.requires.fact_1

pub returns-then-m-s : goal.returns-then-m-s
returns-then-m-s c = c.root_digits-then-m-s.ensures

pub overflow_mul-a : goal.overflow_mul-a
overflow_mul-a c = omega (arith, c.lowered-a.ensures)

pub root_digits-requires-then-u-a : goal.root_digits-requires-then-u-a
root_digits-requires-then-u-a c = c.requires.fact_1

pub returns-then-u-a : goal.returns-then-u-a
returns-then-u-a c = c.root_digits-then-u-a.ensures

pub overflow_mul-a-2 : goal.overflow_mul-a-2
overflow_mul-a-2 c = omega (arith, c.lowered-a.ensures)

pub overflow_mul-u : goal.overflow_mul-u
overflow_mul-u c = omega (arith, c.lowered-a.ensures)

pub second_half-requires : goal.second_half-requires
second_half-requires c = guessed c.lowered-a.result _ (omega (arith, c.if-a-lt67108864.false)) c.lowered-a.ensures (omega (arith, c.if-u-a.false))

pub returns : goal.returns
returns c =
    let a = c.lowered-a.result in
    let m = c.args.m in
    let e : a * a + (m - a * a) ≡ m = omega (arith, c.if-m-s.false) in
    subst (λ (n : ℕ). IsWhole n c.second_half.result) (guess_sum m a (m - a * a) e) c.second_half.ensures
