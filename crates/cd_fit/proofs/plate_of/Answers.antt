-- `cd_fit::plate_of` meets its contract: both right sides have their unknowns, and the calls give what the definition names. Assumes nothing.
use Rattle.cd_fit.proofs.plate_of.Goals as goal

pub returns : goal.returns
returns c = rw (c.plate_fit.ensures, c.plate_in.ensures, c.unknowns.ensures, c.unknowns-2.ensures)
