-- `elimination_rows::clear_below` meets its contract: the copy is the tail of row col. Assumes nothing.
use Prim.Native.Nat.{◌+◌, ◌-◌, ◌*◌}
use mathlib.Core.Path.{◌≡◌, ◌∙◌, ap, sym}
use native.Mathlib.Omega.{arith}
use lib.Seq.{length-take-le, take_at}
use lib.ListN.{length}
use Rattle.elimination_rows.proofs.Turns.{tail_long}
use Rattle.elimination_rows.proofs.Flat.{in_row}
use Rattle.elimination_rows.proofs.clear_below.Goals as goal

pub overflow_mul-from : goal.overflow_mul-from
overflow_mul-from c = let a = c.args in omega (arith, in_row a.n a.w a.col (omega arith))

pub overflow_add-from : goal.overflow_add-from
overflow_add-from c = let a = c.args in omega (arith, in_row a.n a.w a.col (omega arith))

pub overflow_add-end : goal.overflow_add-end
overflow_add-end c = let a = c.args in omega (arith, in_row a.n a.w a.col (omega arith))

pub slice_bounds-copy_row-end-2 : goal.slice_bounds-copy_row-end-2
slice_bounds-copy_row-end-2 c = sym (length-take-le _ _ (omega arith))

pub offset_bounds-m-from : goal.offset_bounds-m-from
offset_bounds-m-from c = let a = c.args in omega (arith, in_row a.n a.w a.col (omega arith))

pub slice_bounds-copy_row-end : goal.slice_bounds-copy_row-end
slice_bounds-copy_row-end c = let a = c.args in omega (arith, in_row a.n a.w a.col (omega arith))

pub copy_row-requires : goal.copy_row-requires
copy_row-requires c =
    let a = c.args in
    let e : a.col * a.w + a.col + (a.w - a.col) - (a.col * a.w + a.col) ≡ a.w - a.col = omega arith in
    length-take-le (a.w - a.col) a.held.now (omega arith) ∙ rw e (sym (tail_long a.m.now a.n a.w a.col c.requires.m_len (omega arith) (omega arith)))

pub slice_bounds-reduce_rows-end-2 : goal.slice_bounds-reduce_rows-end-2
slice_bounds-reduce_rows-end-2 c =
    let a = c.args in
    let k = c.copy_row in
    let long : length k.new.to ≡ a.w - a.col = k.auto.to ∙ length-take-le (a.w - a.col) a.held.now (omega arith) in
    sym (ap length (take_at k.new.to _ (a.w - a.col) long) ∙ long)

pub reduce_rows-requires : goal.reduce_rows-requires
reduce_rows-requires c =
    let a = c.args in
    let k = c.copy_row in
    let long : length k.new.to ≡ a.w - a.col = k.auto.to ∙ length-take-le (a.w - a.col) a.held.now (omega arith) in
    let e : a.col * a.w + a.col + (a.w - a.col) - (a.col * a.w + a.col) ≡ a.w - a.col = omega arith in record { m_len = c.requires.m_len; col_lt_n = (omega arith, omega arith); pivot_value = take_at k.new.to _ (a.w - a.col) long ∙ (rw e at k.ensures) }
