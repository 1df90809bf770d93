-- `sip_sums::put_lines` meets its contract: after k rows the first k lines are put. Assumes nothing.
use lib.Seq.{length-take-le}
use Rattle.sip_sums.proofs.Adding.{put_none, put_more, put_all}
use Rattle.sip_sums.specs.Steps.{line_at}
use Rattle.sip_sums.specs.Field.{offset_at}
use Rattle.elimination_rows.proofs.Flat.{in_row}
use Rattle.elimination_rows.specs.Matrix.{cells}
use Rattle.rows.specs.Rows.{rows}
use lib.ListN.{length, drop, length-drop}
use native.Mathlib.Omega.{arith}
use mathlib.Core.Path.{◌≡◌, ◌∙◌, refl}
use Prim.Native.Nat.{◌+◌, ◌-◌, ◌*◌}
use borrow.Author.Rules.{rules}
use Rattle.sip_sums.proofs.put_lines.Goals as goal

pub loop-k-init : goal.loop-k-init
loop-k-init c = let a = c.args in let r = rows a.px.now a.py.now a.xi.now a.eta.now in (put_none (λ i j. line_at a.n (offset_at r a.wcs i) j) (cells a.lines.now (a.n + 2)) (length a.px.now) (a.n + 2) a.lines.now (λ p k i j. refl), search rules, search rules, search rules, search rules, search rules)

pub overflow_mul-from : goal.overflow_mul-from
overflow_mul-from c = let a = c.args in omega (arith, in_row (length a.px.now) (a.n + 2) c.loop-k.k (omega arith))

pub overflow_add-end : goal.overflow_add-end
overflow_add-end c = let a = c.args in omega (arith, in_row (length a.px.now) (a.n + 2) c.loop-k.k (omega arith))

pub offset_bounds-lines-from : goal.offset_bounds-lines-from
offset_bounds-lines-from c = let a = c.args in omega (arith, in_row (length a.px.now) (a.n + 2) c.loop-k.k (omega arith))

pub slice_bounds-put_line-end : goal.slice_bounds-put_line-end
slice_bounds-put_line-end c = let a = c.args in omega (arith, in_row (length a.px.now) (a.n + 2) c.loop-k.k (omega arith))

pub put_line-requires : goal.put_line-requires
put_line-requires c = let a = c.args in let l = c.loop-k in let w = a.n + 2 in let e : l.k * w + w - l.k * w ≡ w = omega arith in record { n_bound = l.invariant.5; line_len = rw e (length-take-le w (drop (l.k * w) l.lines) (rw length-drop (omega (arith, in_row (length a.px.now) w l.k (omega arith))))) }

pub loop-k-preserved : goal.loop-k-preserved
loop-k-preserved c = let a = c.args in let l = c.loop-k in let w = a.n + 2 in let r = rows a.px.now a.py.now a.xi.now a.eta.now in let p = c.put_line in (
  put_more (λ i j. line_at a.n (offset_at r a.wcs i) j) (cells a.lines.now w) (length a.px.now) w l.lines p.new.line l.k (l.k * w + w - l.k * w) (omega arith) (omega arith) l.invariant.1 (p.ensures ∙ rw c.offset_at-o.ensures) l.invariant.0,
  c.lines-1.given.1 ∙ l.invariant.1,
  omega arith,
  search rules,
  search rules,
  search rules,
)

pub returns : goal.returns
returns c = let a = c.args in let l = c.loop-k in let r = rows a.px.now a.py.now a.xi.now a.eta.now in let e : l.k ≡ length a.px.now = omega arith in record {
  long = l.invariant.1;
  held = put_all (λ i j. line_at a.n (offset_at r a.wcs i) j) (cells a.lines.now (a.n + 2)) (length a.px.now) (a.n + 2) l.lines (rw e at l.invariant.0);
}
