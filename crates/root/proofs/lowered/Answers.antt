-- `root::lowered` meets its contract. Assumes nothing.
use native.Mathlib.Omega.{arith}
use native.Mathlib.Nat.{mul-le-mul}
use Prim.Native.Nat.{◌*◌, ◌≤◌}
use Rattle.root.proofs.lowered.Goals as goal

pub overflow_mul-g : goal.overflow_mul-g
overflow_mul-g c =
    let g = c.args.g in
    let h : g ≤ 134217728 = omega (arith, c.requires) in
    let k : g * g ≤ 134217728 * 134217728 = mul-le-mul h h in
    omega arith

pub overflow_sub-result : goal.overflow_sub-result
overflow_sub-result c = omega arith

pub returns-then-m-g : goal.returns-then-m-g
returns-then-m-g c = omega (arith, c.requires)

pub returns-else-m-g : goal.returns-else-m-g
returns-else-m-g c = omega (arith, c.requires)

pub returns-else-g-gt0 : goal.returns-else-g-gt0
returns-else-g-gt0 c = omega (arith, c.requires)
