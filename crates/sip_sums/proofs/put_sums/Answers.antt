-- `sip_sums::put_sums` meets its contract: after k rows the sums are those of the first k lines. Assumes nothing.
use lib.Seq.{length-take-le}
use Rattle.sip_sums.proofs.Adding.{sums_none, sums_more}
use Rattle.elimination_rows.proofs.Flat.{in_row}
use Rattle.cd_plate.specs.Plate.{nothing}
use lib.ListN.{length, drop, length-drop, length-replicate}
use native.Mathlib.Omega.{arith}
use mathlib.Core.Path.{◌≡◌, ◌∙◌, refl}
use Prim.Native.Nat.{◌+◌, ◌-◌, ◌*◌}
use borrow.Author.Rules.{rules}
use Rattle.sip_sums.proofs.put_sums.Goals as goal

pub loop-k-init : goal.loop-k-init
loop-k-init c = let a = c.args in let e : length a.m.now ≡ a.n * (a.n + 2) = rw c.requires.m_value (length-replicate (a.n * (a.n + 2)) nothing) in (sums_none a.lines.now a.snr.now a.mask.now a.n a.m.now c.requires.m_value, e, search rules, search rules, e, search rules, search rules)

pub overflow_mul-from : goal.overflow_mul-from
overflow_mul-from c = let a = c.args in omega (arith, in_row (length a.snr.now) (a.n + 2) c.loop-k.k (omega arith))

pub overflow_add-end : goal.overflow_add-end
overflow_add-end c = let a = c.args in omega (arith, in_row (length a.snr.now) (a.n + 2) c.loop-k.k (omega arith))

pub offset_bounds-lines-from : goal.offset_bounds-lines-from
offset_bounds-lines-from c = let a = c.args in omega (arith, in_row (length a.snr.now) (a.n + 2) c.loop-k.k (omega arith))

pub slice_bounds-add_if-end : goal.slice_bounds-add_if-end
slice_bounds-add_if-end c = let a = c.args in omega (arith, in_row (length a.snr.now) (a.n + 2) c.loop-k.k (omega arith))

pub add_if-requires : goal.add_if-requires
add_if-requires c = let a = c.args in let l = c.loop-k in let w = a.n + 2 in let e : l.k * w + w - l.k * w ≡ w = omega arith in record { n_bound = l.invariant.6; line_len = rw e (length-take-le w (drop (l.k * w) a.lines.now) (rw length-drop (omega (arith, in_row (length a.snr.now) w l.k (omega arith))))); m_len = l.invariant.1 }

pub loop-k-preserved : goal.loop-k-preserved
loop-k-preserved c = let a = c.args in let l = c.loop-k in let w = a.n + 2 in let p = c.add_if in (
  sums_more a.lines.now a.snr.now a.mask.now a.n l.m p.new.m l.k (l.k * w + w - l.k * w) _ _ (omega arith) refl refl l.invariant.0 p.ensures,
  p.auto.m ∙ l.invariant.1,
  omega arith,
  search rules,
  search rules,
  search rules,
  search rules,
)

pub returns : goal.returns
returns c = let a = c.args in let l = c.loop-k in let e : l.k ≡ length a.snr.now = omega arith in rw e at l.invariant.0
