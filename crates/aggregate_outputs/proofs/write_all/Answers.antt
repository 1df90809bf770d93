-- `aggregate_outputs::write_all` meets its contract. Assumes nothing.
use Rattle.aggregate_outputs.proofs.write_all.Goals as goal

pub write_lists-requires : goal.write_lists-requires
write_lists-requires c = c.requires
