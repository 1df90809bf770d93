-- `record_load::hand_out` meets its contract: the front of the list is the copied one. Assumes nothing.
use lib.Seq.{length-take-le}
use lib.ListN.{length}
use mathlib.Core.Path.{sym}
use Rattle.record_load.proofs.hand_out.Goals as goal

pub slice_bounds-copy_row-end-2 : goal.slice_bounds-copy_row-end-2
slice_bounds-copy_row-end-2 c = let a = c.args in sym (length-take-le (length a.from.now) a.to.now c.requires)

pub copy_row-requires : goal.copy_row-requires
copy_row-requires c = let a = c.args in length-take-le (length a.from.now) a.to.now c.requires

pub returns : goal.returns
returns c = rw c.copy_row.ensures
