-- `sip_values::put_powers` meets its contract: after k rows the first k columns of both tables are filled. Assumes nothing.
use Rattle.sip_values.proofs.Columns.{columns_none, columns_more, columns_all}
use Rattle.sip_values.specs.Values.{powers_u, powers_v}
use Rattle.elimination_rows.specs.Matrix.{cells}
use Rattle.rows.specs.Rows.{rows}
use lib.ListN.{length}
use native.Mathlib.Omega.{arith}
use mathlib.Core.Path.{◌≡◌, ◌∙◌, refl}
use borrow.Author.Rules.{rules}
use Rattle.sip_values.proofs.put_powers.Goals as goal

pub loop-k-init : goal.loop-k-init
loop-k-init c = let a = c.args in let w = length a.px.now in let r = rows a.px.now a.py.now a.xi.now a.eta.now in (
  columns_none (powers_u r a.wcs) (cells a.up.now w) 6 w a.up.now (λ p k i j. refl),
  columns_none (powers_v r a.wcs) (cells a.vp.now w) 6 w a.vp.now (λ p k i j. refl),
  search rules,
  search rules,
  search rules,
  search rules,
  search rules,
  search rules,
  search rules,
)

pub put_column-requires : goal.put_column-requires
put_column-requires c = let l = c.loop-k in record { out_len = l.invariant.2; k_lt_w = (omega arith, omega arith) }

pub put_column-requires-in-loop-k : goal.put_column-requires-in-loop-k
put_column-requires-in-loop-k c = let l = c.loop-k in record { out_len = l.invariant.3; k_lt_w = (omega arith, omega arith) }

pub loop-k-preserved : goal.loop-k-preserved
loop-k-preserved c = let l = c.loop-k in let a = c.args in let w = length a.px.now in let r = rows a.px.now a.py.now a.xi.now a.eta.now in let o = c.offset_at-o in let p = c.put_column in let q = c.put_column-in-loop-k in (
  columns_more (powers_u r a.wcs) (cells a.up.now w) 6 w l.up p.new.out l.k o.result.u (λ e. rw o.ensures) l.invariant.0 p.ensures,
  columns_more (powers_v r a.wcs) (cells a.vp.now w) 6 w l.vp q.new.out l.k o.result.v (λ e. rw o.ensures) l.invariant.1 q.ensures,
  p.auto.out ∙ l.invariant.2,
  q.auto.out ∙ l.invariant.3,
  omega arith,
  search rules,
  search rules,
  search rules,
  search rules,
)

pub returns : goal.returns
returns c = let l = c.loop-k in let a = c.args in let w = length a.px.now in let r = rows a.px.now a.py.now a.xi.now a.eta.now in let e : l.k ≡ w = omega arith in record {
  long_u = l.invariant.2;
  long_v = l.invariant.3;
  held_u = columns_all (powers_u r a.wcs) (cells a.up.now w) 6 w l.up (rw e at l.invariant.0);
  held_v = columns_all (powers_v r a.wcs) (cells a.vp.now w) 6 w l.vp (rw e at l.invariant.1);
}
