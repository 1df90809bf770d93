-- `sip_clip::reject` meets its contract: after k rows the first k bytes are clipped, and the others are as they were. Assumes nothing.
use Rattle.cd_plate.specs.Masked.{is_on}
use Rattle.cd_mask.proofs.Marking.{byte_small}
use borrow.Author.Rules.{rules}
use Rattle.sip_clip.proofs.Rejecting.{rejected_few}
use Rattle.sip_clip.specs.Steps.{past_in}
use Rattle.sip_clip.specs.Clip.{rejected_to, byte_at}
use Rattle.sip_terms.proofs.Told.{front_at}
use Rattle.cd_plate.proofs.Filling.{start, again}
use lib.ListN.{length, get_or, drop_of_length-le}
use native.Mathlib.Omega.{arith}
use native.Mathlib.Numerals.{add-one}
use mathlib.Core.List.{append-nil}
use mathlib.Core.Bool.{◌&&◌}
use mathlib.Core.Path.{◌≡◌, ◌∙◌, refl}
use Rattle.sip_clip.proofs.reject.Goals as goal

pub loop-k-init : goal.loop-k-init
unfolding rejected_to
loop-k-init c = (start, refl, search rules, search rules)

pub bounds-mask-k : goal.bounds-mask-k
bounds-mask-k c = omega (arith, c.loop-k.invariant.0.long)

pub overflow_add-rejected : goal.overflow_add-rejected
overflow_add-rejected c = let l = c.loop-k in let a = c.args in omega (arith, l.invariant.1, rejected_few (past_in a.errors.now a.roots.now a.limit) a.mask.now l.k, byte_small (is_on l.mask l.k && past_in a.errors.now a.roots.now a.limit l.k) c.number_of-rejected.ensures)

pub bounds-mask-k-in-loop-k : goal.bounds-mask-k-in-loop-k
bounds-mask-k-in-loop-k c = omega (arith, c.loop-k.invariant.0.long)

pub loop-k-preserved : goal.loop-k-preserved
unfolding rejected_to
loop-k-preserved c = let l = c.loop-k in let a = c.args in
    let d : get_or l.mask l.k 0 ≡ get_or a.mask.now l.k 0 = rw l.invariant.0.is (front_at (byte_at (past_in a.errors.now a.roots.now a.limit) a.mask.now) l.k a.mask.now 0) in (
      again c.byte_of.result l.invariant.0 (omega arith) (c.byte_of.ensures ∙ rw d),
      rw (add-one l.k, l.invariant.1, c.number_of-rejected.ensures, d),
      omega arith,
      search rules,
    )

pub shape_of-mask : goal.shape_of-mask
shape_of-mask c = c.loop-k.invariant.0.long

pub returns : goal.returns
returns c = let l = c.loop-k in let a = c.args in let e : l.k ≡ length a.mask.now = omega arith in (rw (← e) l.invariant.1, l.invariant.0.is ∙ rw (e, drop_of_length-le a.mask.now {i = length a.mask.now} (omega arith), append-nil))
