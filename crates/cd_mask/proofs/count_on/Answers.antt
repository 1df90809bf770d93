-- `cd_mask::count_on` meets its contract: the count, with the ones still to come, is all of them. Assumes nothing.
use mathlib.Core.Path.{ap}
use mathlib.Core.Bool.{Bool}
use Prim.Native.Nat.{ℕ}
use mathlib.Core.List.{List}
use native.Mathlib.Omega.{arith}
use lib.Dec.{eqb}
use lib.ListN.{get_or, drop_of_length-le}
use Rattle.cd_mask.specs.Marks.{ones}
use Rattle.cd_mask.proofs.Marking.{byte_small, ones_at}
use Rattle.cd_mask.proofs.count_on.Goals as goal

-- whether the row at a place is on
abbrev here : List ℕ → ℕ → Bool
here mask i = eqb (get_or mask i 0) 1

pub overflow_add-count : goal.overflow_add-count
overflow_add-count c = omega (arith, byte_small (here c.args.mask.now c.loop-b.b-index) c.is_on-count.ensures)

pub loop-b-preserved : goal.loop-b-preserved
loop-b-preserved c =
    let mask = c.args.mask.now in
    let small = byte_small (here c.args.mask.now c.loop-b.b-index) c.is_on-count.ensures in
    (omega (arith, small), omega (arith, c.is_on-count.ensures, ones_at mask c.loop-b.b-index (omega arith)))

pub returns : goal.returns
unfolding ones
returns c =
    let mask = c.args.mask.now in
    omega (arith, ap ones (drop_of_length-le mask {i = c.loop-b.b-index} (omega arith)))
