-- `sip_terms::Term::next` meets its contract: each return stands for its test. Assumes nothing.
use borrow.Author.Tests.{eq-eqb, ne_eqb}
use Rattle.sip_terms.proofs.Term.next.Goals as goal

pub returns-then-self-eq0 : goal.returns-then-self-eq0
returns-then-self-eq0 c = rw (eq-eqb _ _ c.if-self-eq0.true)

pub returns : goal.returns
returns c = rw (ne_eqb _ _ c.if-self-eq0.false)
