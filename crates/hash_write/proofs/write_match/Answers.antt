-- `hash_write::write_match` meets its contract: two runs of four stores. Assumes nothing.
use Rattle.hash_write.proofs.Writing.{two_fours}
use Rattle.hash_write.proofs.write_match.Goals as goal

pub returns : goal.returns
returns c = let a = c.args in two_fours a.places.now a.i a.catalogue.now a.j a.matches.now a.p c.write_four.ensures c.write_four-2.ensures
