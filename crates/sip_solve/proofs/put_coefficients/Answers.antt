-- `sip_solve::put_coefficients` meets its contract: the unknowns, and then what is kept of them. Assumes nothing.
use Rattle.sip_solve.proofs.put_coefficients.Goals as goal

pub returns : goal.returns
returns c = rw (c.keep_all.ensures, c.unknowns.ensures)
