-- What the tests of the writer say of each number, and the other way round. Assumes nothing.
use Rattle.std.specs.Prelude.{Ok, Err}
use mathlib.Core.Path.{◌≡◌}
use mathlib.Core.Bool.{Bool, true, cond, not, ◌&&◌, and-eq-true_iff}
use Prim.Native.Nat.{◌≤◌}
use lib.Dec.{ltb, leb}
use lib.ListN.{length}
use lib.Ieee.{of_bits, neg, lt, le, eq}
use borrow.Author.Tests.{ltb-false, leb-true, not-false}
use Rattle.answer.proofs.Passed.{passed}
use Rattle.answer.specs.declared.Refusal.TheVariants as refusal
use Rattle.domain.specs.Domain.{is_position, is_finite}
use Rattle.cd_plate.specs.Plate.{is_cd}
use Rattle.wcs.specs.declared.Wcs.{Wcs}
use Rattle.wcs.specs.Wcs.{is_wcs}
use Rattle.record_lines.specs.Lines.{Solution}
use Rattle.record.specs.Record.{is_order, lengths_fit, input_answer, Passed}

pub both : (a b : Bool) → (a && b) ≡ true → (a ≡ true) × (b ≡ true)
both a b e = (and-eq-true_iff a b).0 e

all : (a b : Bool) → a ≡ true → b ≡ true → (a && b) ≡ true
all a b e f = rw (e, f)

-- each number of a WCS
pub record WcsTests (w : Wcs) : Type 0 where
  pub x : is_position w.crpix1 ≡ true
  pub y : is_position w.crpix2 ≡ true
  pub xx : is_finite w.cd1_1 ≡ true
  pub xy : is_finite w.cd1_2 ≡ true
  pub yx : is_finite w.cd2_1 ≡ true
  pub yy : is_finite w.cd2_2 ≡ true

pub wcs_tests : (w : Wcs) → is_wcs w ≡ true → WcsTests w
unfolding is_wcs is_cd
wcs_tests w e =
    let p = both _ _ e in
    let q = both _ _ p.0 in
    let r = both _ _ p.1 in
    let u = both _ _ r.0 in
    let v = both _ _ r.1 in
    record { x = q.0; y = q.1; xx = u.0; xy = (both _ _ u.1).0; yx = v.0; yy = (both _ _ v.1).0 }

pub wcs_passes : (w : Wcs) → WcsTests w → is_wcs w ≡ true
unfolding is_wcs is_cd of_bits neg lt le eq
wcs_passes w t = rw (t.x, t.y, t.xx, t.xy, t.yx, t.yy)

-- what an input that passed says
pub record Tests (s : Solution) : Type 0 where
  pub rows : s.fit.rows_used ≤ 100
  pub wcs : is_wcs s.wcs ≡ true
  pub least : 2 ≤ s.order
  pub most : s.order ≤ 5

pub tests : (s : Solution) → Passed s → Tests s
unfolding input_answer
tests s e =
    let f = passed (ltb 100 s.fit.rows_used) _ _ e in
    let g = passed (not (lengths_fit s.order (length s.a) (length s.b))) _ _ f.1 in
    let v = passed (not (is_wcs s.wcs)) refusal.Value (cond (not (is_order s.order)) (Err refusal.Order) (Ok tt)) g.1 in
    let o = passed (not (is_order s.order)) refusal.Order (Ok tt) v.1 in
    let is = both (leb 2 s.order) (leb s.order 5) (not-false (is_order s.order) o.0) in
    record { rows = ltb-false 100 s.fit.rows_used f.0; wcs = not-false (is_wcs s.wcs) v.0; least = leb-true 2 s.order is.0; most = leb-true s.order 5 is.1 }
