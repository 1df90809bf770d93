-- `cd_normal::put_system` meets its contract: the rows before r are the system's. Assumes nothing.
use Prim.Native.Nat.{◌+◌, ◌-◌, ◌*◌}
use mathlib.Core.Path.{◌≡◌, ◌∙◌}
use native.Mathlib.Omega.{arith}
use borrow.Author.Rules.{rules}
use Rattle.cd_normal.proofs.System.{rows_none, row_put, rows_all}
use Rattle.elimination_rows.proofs.Flat.{in_row}
use Rattle.elimination_rows.specs.Matrix.{cells}
use Rattle.cd_normal.proofs.put_system.Goals as goal

pub loop-r-init : goal.loop-r-init
loop-r-init c = let a = c.args in (rows_none a.a.now a.b.now a.n c.requires.a_len a.m.now, search rules, search rules, search rules)

pub overflow_mul-at : goal.overflow_mul-at
overflow_mul-at c = let a = c.args in omega (arith, in_row a.n (a.n + 1) c.loop-r.r (omega arith))

pub overflow_add-end : goal.overflow_add-end
overflow_add-end c = let a = c.args in omega (arith, in_row a.n (a.n + 1) c.loop-r.r (omega arith))

pub overflow_mul-from : goal.overflow_mul-from
overflow_mul-from c = let a = c.args in omega (arith, in_row a.n a.n c.loop-r.r (omega arith))

pub overflow_add-to : goal.overflow_add-to
overflow_add-to c = let a = c.args in omega (arith, in_row a.n a.n c.loop-r.r (omega arith))

pub offset_bounds-m-at : goal.offset_bounds-m-at
offset_bounds-m-at c = let a = c.args in omega (arith, in_row a.n (a.n + 1) c.loop-r.r (omega arith))

pub slice_bounds-put_row-end : goal.slice_bounds-put_row-end
slice_bounds-put_row-end c = let a = c.args in omega (arith, in_row a.n (a.n + 1) c.loop-r.r (omega arith))

pub offset_bounds-a-from : goal.offset_bounds-a-from
offset_bounds-a-from c = let a = c.args in omega (arith, in_row a.n a.n c.loop-r.r (omega arith))

pub loop-r-preserved : goal.loop-r-preserved
loop-r-preserved c =
    let a = c.args in
    let p = c.put_row in (
      row_put a.a.now a.b.now a.n c.requires.a_len c.loop-r.m p.new.to c.loop-r.r (c.loop-r.r * (a.n + 1) + (a.n + 1) - c.loop-r.r * (a.n + 1)) (c.loop-r.r * a.n + a.n - c.loop-r.r * a.n) (cells a.m.now (a.n + 1)) (omega arith) c.loop-r.invariant.1 (omega arith) (omega arith) p.ensures c.loop-r.invariant.0,
      c.m-1.given.1 ∙ c.loop-r.invariant.1,
      omega arith,
      search rules,
    )

pub returns : goal.returns
returns c =
    let a = c.args in
    let e : c.loop-r.r ≡ a.n = omega arith in
    rows_all a.a.now a.b.now a.n c.requires.a_len c.loop-r.m (cells a.m.now (a.n + 1)) (rw e at c.loop-r.invariant.0)
