-- `sip_values::put_values` meets its contract: after i terms the sums are those of the first i. Assumes nothing.
use Rattle.sip_values.proofs.Summing.{values_none, values_more}
use Rattle.sip_terms.proofs.Places.{term_more}
use Rattle.sip_terms.specs.Terms.{term_at}
use Rattle.elimination_rows.specs.Matrix.{cells}
use lib.ListN.{length}
use native.Mathlib.Omega.{arith}
use mathlib.Core.Path.{◌≡◌}
use Rattle.sip_values.proofs.put_values.Goals as goal

pub loop-c-init : goal.loop-c-init
unfolding term_at
loop-c-init c = let a = c.args in let w = length a.s.now in (values_none a.cs.now (cells a.up.now w) (cells a.vp.now w) w a.s.now c.requires.s_value, c.first-t.ensures)

pub loop-c-preserved : goal.loop-c-preserved
loop-c-preserved c = let l = c.loop-c in let a = c.args in let w = length a.s.now in let p = c.add_term in (
  values_more a.cs.now (cells a.up.now w) (cells a.vp.now w) w l.s p.new.s l.c-index l.t l.invariant.1 l.invariant.0 (rw l.auto.s at p.ensures),
  term_more l.t c.next-t.result l.c-index l.invariant.1 c.next-t.ensures,
)

pub returns : goal.returns
returns c = let l = c.loop-c in let e : l.c-index ≡ length c.args.cs.now = omega arith in rw (← e) l.invariant.0
