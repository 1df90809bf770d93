-- `elimination_rows::reduce_row` meets its contract: the tail comes back to its places. Assumes nothing.
use Prim.Native.Nat.{◌+◌, ◌-◌, ◌*◌}
use mathlib.Core.Path.{◌≡◌}
use native.Mathlib.Omega.{arith}
use Rattle.elimination_rows.proofs.Turns.{row_less}
use Rattle.elimination_rows.proofs.Flat.{in_row}
use Rattle.elimination_rows.proofs.reduce_row.Goals as goal

pub overflow_mul-from : goal.overflow_mul-from
overflow_mul-from c = let a = c.args in omega (arith, in_row a.n a.w a.row (omega arith))

pub overflow_add-from : goal.overflow_add-from
overflow_add-from c = let a = c.args in omega (arith, in_row a.n a.w a.row (omega arith))

pub overflow_mul-end : goal.overflow_mul-end
overflow_mul-end c = let a = c.args in omega (arith, in_row a.n a.w a.row (omega arith))

pub overflow_add-end : goal.overflow_add-end
overflow_add-end c = let a = c.args in omega (arith, in_row a.n a.w a.row (omega arith))

pub offset_bounds-m-from : goal.offset_bounds-m-from
offset_bounds-m-from c = let a = c.args in omega (arith, in_row a.n a.w a.row (omega arith))

pub slice_bounds-subtract-end : goal.slice_bounds-subtract-end
slice_bounds-subtract-end c = let a = c.args in omega (arith, in_row a.n a.w a.row (omega arith))

pub returns : goal.returns
returns c =
    let a = c.args in
    let s = c.subtract in
    let e : a.row * a.w + a.w - (a.row * a.w + a.col) ≡ a.w - a.col = omega arith in
    row_less a.m.now a.pivot.now s.new.row a.n a.w a.row a.col (a.row * a.w + a.w - (a.row * a.w + a.col)) a.factor e c.requires.m_len (omega arith) (omega arith) s.auto.row s.ensures
