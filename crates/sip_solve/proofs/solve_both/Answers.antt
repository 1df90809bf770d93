-- `sip_solve::solve_both` meets its contract: the count decides; the matrix that is lent is of zeros. Assumes nothing.
use Prim.Native.Nat.{◌+◌, ◌*◌}
use mathlib.Core.Path.{sym}
use native.Mathlib.Omega.{arith}
use borrow.Author.Tests.{lt-ltb, le-ltb}
use lib.Seq.{length-take-le}
use Rattle.cd_plate.specs.Plate.{nothing}
use Rattle.sip_terms.proofs.Told.{take_replicate}
use Rattle.sip_solve.specs.Steps.{solve_in}
use Rattle.sip_solve.proofs.Room.{in_square}
use Rattle.sip_solve.proofs.solve_both.Goals as goal

pub returns-then-count_on-n : goal.returns-then-count_on-n
unfolding solve_in
returns-then-count_on-n c = rw (← c.count_on.ensures, lt-ltb _ _ c.if-count_on-n.true)

pub overflow_mul-size : goal.overflow_mul-size
overflow_mul-size c = omega (arith, in_square c.args.n (omega arith))

pub slice_bounds-m-end : goal.slice_bounds-m-end
slice_bounds-m-end c = in_square c.args.n (omega arith)

pub slice_bounds-solve_in-end : goal.slice_bounds-solve_in-end
slice_bounds-solve_in-end c = sym (length-take-le _ _ (in_square c.args.n (omega arith)))

pub solve_in-requires : goal.solve_in-requires
solve_in-requires c = let n = c.args.n in record { mask_len_1 = c.requires.mask_len_1; mask_len_2 = c.requires.mask_len_2; n_bound = c.requires.n_bound; m_value = take_replicate (n * (n + 2)) 360 nothing (in_square n (omega arith)); a_len_1 = c.requires.a_len_1; a_len_2 = c.requires.a_len_2 }

pub returns : goal.returns
unfolding solve_in
returns c = rw (← c.count_on.ensures, le-ltb _ _ c.if-count_on-n.false) c.solve_in.ensures
