-- `cd_sums::sum_three` meets its contract: each row is added to the sums of those before it. Assumes nothing.
use Rattle.cd_sums.proofs.Turns.{row_again}
use Rattle.cd_sums.proofs.sum_three.Goals as goal

pub returns : goal.returns
returns c =
    let first = row_again _ _ _ c.new.ensures c.with_row.ensures in
    let second = row_again _ _ _ first c.with_row-2.ensures in
    row_again _ _ _ second c.with_row-3.ensures
