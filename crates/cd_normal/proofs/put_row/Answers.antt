-- `cd_normal::put_row` meets its contract: the copy, and the last number behind it. Assumes nothing.
use mathlib.Core.Path.{sym}
use native.Mathlib.Omega.{arith}
use lib.Seq.{length-take-le}
use Rattle.cd_normal.proofs.System.{last_put}
use Rattle.cd_normal.proofs.put_row.Goals as goal

pub slice_bounds-copy_row-end-2 : goal.slice_bounds-copy_row-end-2
slice_bounds-copy_row-end-2 c = sym (length-take-le _ _ (omega arith))

pub copy_row-requires : goal.copy_row-requires
copy_row-requires c = length-take-le _ _ (omega arith)

pub returns : goal.returns
returns c = last_put c.args.to.now c.copy_row.new.to c.args.from.now c.args.last c.requires c.copy_row.ensures
