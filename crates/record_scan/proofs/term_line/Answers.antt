-- `record_scan::term_line` meets its contract: a line under the term's name. Assumes nothing.
use Rattle.record_scan.proofs.term_line.Goals as goal

pub returns : goal.returns
returns c = rw (← c.term_name.ensures) (c.real_line.ensures.0, c.real_line.ensures.1)
