-- `sip_terms::is_kept` meets its contract: both do the same test. Assumes nothing.
use Rattle.sip_terms.proofs.is_kept.Goals as goal

pub returns : goal.returns
returns c = rw c.magnitude.ensures
