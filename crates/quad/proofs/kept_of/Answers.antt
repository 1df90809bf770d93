-- `quad::kept_of` meets its contract. Assumes nothing.
use Rattle.quad.proofs.kept_of.Goals as goal

pub returns-in-Some : goal.returns-in-Some
returns-in-Some c = rw (← c.normalize.ensures, c.in-Some.is)

pub returns-in-None : goal.returns-in-None
returns-in-None c = rw (← c.normalize.ensures, c.in-None.is)
