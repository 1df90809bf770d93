-- `domain::all_mask_bytes` meets its contract: what is left of the list, tested after what was, comes to the whole. Assumes nothing.
use Rattle.domain.specs.Domain.{is_mask_byte}
use Rattle.domain.proofs.Every.{Left}
use Rattle.domain.proofs.all_mask_bytes.Given as goal

abbrev pub invariant-loop-b : goal.invariant-loop-b
invariant-loop-b l = Left is_mask_byte l.bytes l.ok l.b-index
