-- `aggregate_votes::catalogue_id` meets its contract. Assumes nothing.
use lib.ListN.{get_or-eq_default}
use lib.IntN.{pos}
use mathlib.Core.Path.{sym}
use Rattle.aggregate_votes.proofs.catalogue_id.Goals as goal

pub returns-else-i-catalogue : goal.returns-else-i-catalogue
returns-else-i-catalogue c = sym (get_or-eq_default c.args.catalogue.now (pos 0) c.if-i-catalogue.false)
