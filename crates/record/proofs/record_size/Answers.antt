-- `record::record_size` meets its contract: a sum. Assumes nothing.
use Rattle.record.proofs.record_size.Goals as goal

pub returns : goal.returns
returns c = rw (← c.decimal_len-digits.ensures.0, ← c.terms_size.ensures.0, ← c.terms_size-2.ensures.0)
