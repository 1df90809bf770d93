-- `hash_write::place_at` meets its contract: past the end the place is 0. Assumes nothing.
use mathlib.Core.Path.{sym}
use lib.ListN.{get_or-eq_default}
use Rattle.hash_write.proofs.place_at.Goals as goal

pub returns-else-i-places : goal.returns-else-i-places
returns-else-i-places c = sym (get_or-eq_default c.args.places.now 0 c.if-i-places.false)
