-- `index_near::is_inside` meets its contract: a key of from..to is tested by its two lowest lanes alone. Assumes nothing.
use Rattle.index_near.proofs.Ranges.{inside_is}
use Rattle.index_near.proofs.is_inside.Goals as goal

pub returns : goal.returns
returns c = inside_is c.args.from c.args.to c.args.v c.requires.fact_1 c.requires.fact_2
