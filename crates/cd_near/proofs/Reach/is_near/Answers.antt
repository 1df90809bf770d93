-- `cd_near::Reach::is_near` meets its contract: the squared error tells. Assumes nothing.
use Rattle.cd_near.proofs.Squared.{by_square}
use mathlib.Core.Path.{sym}
use Rattle.cd_near.proofs.Reach.is_near.Goals as goal

pub returns : goal.returns
returns c = rw c.square.ensures (sym (by_square c.args.self c.struct_known-1.given.0 c.struct_known-1.given.1.0 c.requires c.args.v c.args.row))
