-- `sip_terms::put_basis` meets its contract: after i terms the first i places are filled, and the next term is at hand. Assumes nothing.
use Rattle.cd_plate.proofs.Filling.{start, again}
use Rattle.sip_terms.proofs.Places.{term_more}
use Rattle.sip_terms.specs.Terms.{term_at}
use lib.ListN.{length, drop_of_length-le}
use native.Mathlib.Omega.{arith}
use mathlib.Core.List.{append-nil}
use mathlib.Core.Path.{◌≡◌, ◌∙◌}
use Rattle.sip_terms.proofs.put_basis.Goals as goal

pub loop-number-init : goal.loop-number-init
unfolding term_at
loop-number-init c = (start, c.first-t.ensures)

pub loop-number-preserved : goal.loop-number-preserved
loop-number-preserved c = let l = c.loop-number in (again _ l.invariant.0 (omega arith) (rw l.invariant.1), term_more l.t c.next-t.result l.number-index l.invariant.1 c.next-t.ensures)

pub returns : goal.returns
returns c =
    let l = c.loop-number in
    let a = c.args in
    let e : l.number-index ≡ length a.out.now = omega arith in
    l.invariant.0.is ∙ rw (e, drop_of_length-le a.out.now {i = length a.out.now} (omega arith), append-nil)
