-- `clip_face::put_plate` meets its contract: there is room for six numbers, and nothing past them. Assumes nothing.
use Rattle.clip_face.proofs.Over.{over_six}
use Rattle.clip_face.proofs.put_plate.Goals as goal

pub returns : goal.returns
returns c = over_six c.args.m c.args.cd.now c.put_cd.new.out c.requires c.put_cd.ensures.after
