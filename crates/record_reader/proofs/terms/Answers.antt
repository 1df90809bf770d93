-- `record_reader::terms` meets its contract: an order that is shown is fitted, and has at most 18 terms. Assumes nothing.
use native.Mathlib.Omega.{arith}
use Rattle.sip_terms.proofs.Places.{few_terms}
use Rattle.record_reader.proofs.terms.Goals as goal

pub term_count-requires : goal.term_count-requires
term_count-requires c = let o = (rw c.in-Ok.is at c.requires) in (o.0, omega (arith, o.1))

pub returns-in-Ok : goal.returns-in-Ok
returns-in-Ok c = let o = (rw c.in-Ok.is at c.requires) in (rw c.in-Ok.is c.term_count.ensures, rw c.term_count.ensures (few_terms _ o.1))
