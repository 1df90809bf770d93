-- `quad_key::floor_pattern` meets its contract: a held floor is read back as it is. Assumes nothing.
use Rattle.std.proofs.Common.{ap, ◌∙◌}
use Rattle.floats.specs.Floor.{floor_of}
use Rattle.quad_key.specs.Key.{hundredth, pattern32}
use Rattle.quad_key.proofs.Signed.{read_held}
use Rattle.quad_key.proofs.floor_pattern.Goals as goal

pub returns : goal.returns
returns c = c.pattern.ensures ∙ ap pattern32 (read_held (floor_of (hundredth c.args.v)) c.held_floor.ensures)
