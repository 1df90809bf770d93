-- `sip_values::add_term` meets its contract: the test decides; the lines that are lent are those of the powers. Assumes nothing.
use lib.Seq.{length-take-le}
use Rattle.sip_values.proofs.Summing.{term_skipped, term_added_lem}
use Rattle.elimination_rows.proofs.Flat.{in_row}
use Rattle.elimination_rows.specs.Matrix.{cells}
use borrow.Author.Tests.{not-true, not-false}
use lib.ListN.{length, drop, length-drop}
use native.Mathlib.Omega.{arith}
use mathlib.Core.Path.{◌≡◌, ◌∙◌, refl, sym}
use Prim.Native.Nat.{◌+◌, ◌-◌, ◌*◌}
use mathlib.Core.Path.{ap}
use mathlib.Core.Bool.{not}
use Rattle.sip_values.proofs.add_term.Goals as goal

pub returns-then-not-is_kept : goal.returns-then-not-is_kept
returns-then-not-is_kept c = let a = c.args in term_skipped a.c a.t (cells a.up.now (length a.s.now)) (cells a.vp.now (length a.s.now)) a.s.now (sym c.is_kept.ensures ∙ not-true c.is_kept.result (ap not c.if-not-is_kept.true))

pub overflow_mul-x : goal.overflow_mul-x
overflow_mul-x c = let a = c.args in omega (arith, in_row 6 (length a.s.now) a.t.p (omega arith))

pub overflow_mul-y : goal.overflow_mul-y
overflow_mul-y c = let a = c.args in omega (arith, in_row 6 (length a.s.now) a.t.q (omega arith))

pub overflow_add-x_end : goal.overflow_add-x_end
overflow_add-x_end c = let a = c.args in omega (arith, in_row 6 (length a.s.now) a.t.p (omega arith))

pub overflow_add-y_end : goal.overflow_add-y_end
overflow_add-y_end c = let a = c.args in omega (arith, in_row 6 (length a.s.now) a.t.q (omega arith))

pub offset_bounds-up-x : goal.offset_bounds-up-x
offset_bounds-up-x c = let a = c.args in omega (arith, in_row 6 (length a.s.now) a.t.p (omega arith))

pub slice_bounds-add_products-end : goal.slice_bounds-add_products-end
slice_bounds-add_products-end c = let a = c.args in omega (arith, in_row 6 (length a.s.now) a.t.p (omega arith))

pub offset_bounds-vp-y : goal.offset_bounds-vp-y
offset_bounds-vp-y c = let a = c.args in omega (arith, in_row 6 (length a.s.now) a.t.q (omega arith))

pub slice_bounds-add_products-end-2 : goal.slice_bounds-add_products-end-2
slice_bounds-add_products-end-2 c = let a = c.args in omega (arith, in_row 6 (length a.s.now) a.t.q (omega arith))

pub add_products-requires : goal.add_products-requires
add_products-requires c = let a = c.args in let w = length a.s.now in
    let e : a.t.p * w + w - a.t.p * w ≡ w = omega arith in
    let f : a.t.q * w + w - a.t.q * w ≡ w = omega arith in (
      rw e (length-take-le w (drop (a.t.p * w) a.up.now) (rw length-drop (omega (arith, in_row 6 w a.t.p (omega arith))))),
      rw f (length-take-le w (drop (a.t.q * w) a.vp.now) (rw length-drop (omega (arith, in_row 6 w a.t.q (omega arith))))),
    )

pub returns : goal.returns
returns c = let a = c.args in let w = length a.s.now in let p = c.add_products in term_added_lem a.c a.t a.up.now a.vp.now a.s.now p.new.s w (a.t.p * w + w - a.t.p * w) (a.t.q * w + w - a.t.q * w) (sym c.is_kept.ensures ∙ not-false c.is_kept.result (ap not c.if-not-is_kept.false)) refl (omega arith) (omega arith) p.ensures
