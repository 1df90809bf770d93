-- `sip_terms::keep` meets its contract: the test decides. Assumes nothing.
use Rattle.sip_terms.specs.Terms.{kept_of}
use Rattle.sip_terms.proofs.keep.Goals as goal

pub returns-then-is_kept : goal.returns-then-is_kept
unfolding kept_of
returns-then-is_kept c = rw (← c.is_kept.ensures, c.if-is_kept.true)

pub returns-else-is_kept : goal.returns-else-is_kept
unfolding kept_of
returns-else-is_kept c = rw (← c.is_kept.ensures, c.if-is_kept.false)
