-- What an input is like that passed its tests. Assumes nothing.
use Rattle.std.specs.Prelude.{Ok}
use mathlib.Core.Path.{◌≡◌}
use mathlib.Core.Bool.{false, not, ◌&&◌, ◌||◌, and-eq-true_iff}
use Prim.Native.Nat.{ℕ, ◌≤◌}
use lib.Dec.{ltb, leb, eqb}
use lib.ListN.{length}
use borrow.Author.Tests.{leb-true, eqb-true, ltb-false, not-false}
use Rattle.answer.proofs.Passed.{passed, both, neither}
use Rattle.rows.specs.Rows.{count, few_rows, even_rows}
use Rattle.wcs.specs.declared.Wcs.{Wcs}
use Rattle.sip_terms.specs.Terms.{term_count}
use Rattle.sip_sums.specs.Field.{Field}
use Rattle.sip_tests.specs.Tests.{few_field, even_field, field_answer, no_order, order_answer, tests_answer}

-- at most a hundred rows, in five lists of one length
pub record Even (f : Field) : Type 0 where
  pub few : count f.rows ≤ 100
  pub py_long : length f.rows.py ≡ count f.rows
  pub xi_long : length f.rows.xi ≡ count f.rows
  pub eta_long : length f.rows.eta ≡ count f.rows
  pub snr_long : length f.snr ≡ count f.rows

even : (f : Field) → field_answer f ≡ Ok tt → Even f
unfolding field_answer
even f e =
    let p = passed (not (few_field f)) _ _ e in
    let q = passed (not (even_field f)) _ _ p.1 in
    let few = (and-eq-true_iff (few_rows f.rows) _).0 (not-false (few_field f) p.0) in
    let pixels = ((and-eq-true_iff (leb (length f.rows.px) 100 && leb (length f.rows.py) 100) _).0 few.0).0 in
    let long = (and-eq-true_iff (even_rows f.rows) _).0 (not-false (even_field f) q.0) in
    let lists = (and-eq-true_iff (eqb (length f.rows.py) (count f.rows)) _).0 long.0 in
    let plane = (and-eq-true_iff (eqb (length f.rows.xi) (count f.rows)) _).0 lists.1 in
    record {
      few = leb-true _ _ ((and-eq-true_iff (leb (length f.rows.px) 100) _).0 pixels).0;
      py_long = eqb-true _ _ lists.0;
      xi_long = eqb-true _ _ plane.0;
      eta_long = eqb-true _ _ plane.1;
      snr_long = eqb-true _ _ long.1;
    }

-- an order that is fitted
pub in_order : (order : ℕ) → no_order order ≡ false → (2 ≤ order) × (order ≤ 5)
in_order order h = let n = neither (ltb order 2) (ltb 5 order) h in (ltb-false order 2 n.0, ltb-false 5 order n.1)

-- an order that is fitted, and lists with room for its terms
pub record Roomy (order a b : ℕ) : Type 0 where
  pub least : 2 ≤ order
  pub most : order ≤ 5
  pub room_a : term_count order ≤ a
  pub room_b : term_count order ≤ b

roomy : (rows : ℕ) (w : Wcs) (order a b : ℕ) → order_answer rows w order a b ≡ Ok tt → Roomy order a b
unfolding order_answer
roomy rows w order a b e =
    let p = passed (no_order order) _ _ e in
    let q = passed (ltb rows 6 || ltb rows (term_count order)) _ _ p.1 in
    let r = passed (ltb a (term_count order) || ltb b (term_count order)) _ _ q.1 in
    let o = in_order order p.0 in
    let n = neither (ltb a (term_count order)) (ltb b (term_count order)) r.0 in
    record { least = o.0; most = o.1; room_a = ltb-false a (term_count order) n.0; room_b = ltb-false b (term_count order) n.1 }

module _ (f : Field) (order a b : ℕ) (e : tests_answer f order a b ≡ Ok tt) where
  pub tested_field : Even f
  tested_field = even f (both (field_answer f) (order_answer (count f.rows) f.wcs order a b) e).0

  pub tested_order : Roomy order a b
  tested_order = roomy (count f.rows) f.wcs order a b (both (field_answer f) (order_answer (count f.rows) f.wcs order a b) e).1
