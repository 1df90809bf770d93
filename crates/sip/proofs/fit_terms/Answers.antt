-- `sip::fit_terms` meets its contract: the lists that are lent are as long as the rows, and every row is on. Assumes nothing.
use Prim.Native.Nat.{ℕ, ◌≤◌, ◌+◌, ◌*◌}
use native.Mathlib.Omega.{arith}
use native.Mathlib.Nat.{le_trans, mul-le-mul_right, mul-le-mul_left}
use mathlib.Core.Path.{sym}
use lib.ListN.{length}
use lib.Seq.{length-take-le}
use Rattle.sip_terms.proofs.Told.{take_replicate}
use Rattle.sip.proofs.fit_terms.Goals as goal

-- six powers of a hundred rows at most
in-powers : {n : ℕ} → n ≤ 100 → 6 * n ≤ 600
in-powers h = omega arith

-- and a hundred lines of twenty numbers
in_lines : {k n : ℕ} → k ≤ 100 → n ≤ 18 → k * (n + 2) ≤ 2000
in_lines {k} {n} h i =
    let g : n + 2 ≤ 20 = omega arith in
    le_trans (mul-le-mul_right (n + 2) h) (mul-le-mul_left 100 g)

pub overflow_mul-numbers : goal.overflow_mul-numbers
overflow_mul-numbers c = omega (arith, in_lines c.requires.py_len_5 c.requires.n_bound_1)

pub overflow_mul-powers : goal.overflow_mul-powers
overflow_mul-powers c = omega (arith, c.requires.py_len_5)

pub slice_bounds-lines-end : goal.slice_bounds-lines-end
slice_bounds-lines-end c = in_lines c.requires.py_len_5 c.requires.n_bound_1

pub slice_bounds-fit_lent-end : goal.slice_bounds-fit_lent-end
slice_bounds-fit_lent-end c = sym (length-take-le _ _ (in_lines c.requires.py_len_5 c.requires.n_bound_1))

pub slice_bounds-up-end : goal.slice_bounds-up-end
slice_bounds-up-end c = in-powers c.requires.py_len_5

pub slice_bounds-fit_lent-end-2 : goal.slice_bounds-fit_lent-end-2
slice_bounds-fit_lent-end-2 c = sym (length-take-le _ _ (in-powers c.requires.py_len_5))

pub slice_bounds-vp-end : goal.slice_bounds-vp-end
slice_bounds-vp-end c = in-powers c.requires.py_len_5

pub slice_bounds-fit_lent-end-3 : goal.slice_bounds-fit_lent-end-3
slice_bounds-fit_lent-end-3 c = sym (length-take-le _ _ (in-powers c.requires.py_len_5))

pub slice_bounds-roots-end : goal.slice_bounds-roots-end
slice_bounds-roots-end c = c.requires.py_len_5

pub slice_bounds-fit_lent-end-4 : goal.slice_bounds-fit_lent-end-4
slice_bounds-fit_lent-end-4 c = sym (length-take-le _ _ c.requires.py_len_5)

pub slice_bounds-mask-end : goal.slice_bounds-mask-end
slice_bounds-mask-end c = c.requires.py_len_5

pub slice_bounds-fit_lent-end-5 : goal.slice_bounds-fit_lent-end-5
slice_bounds-fit_lent-end-5 c = sym (length-take-le _ _ c.requires.py_len_5)

pub slice_bounds-errors-end : goal.slice_bounds-errors-end
slice_bounds-errors-end c = c.requires.py_len_5

pub slice_bounds-fit_lent-end-6 : goal.slice_bounds-fit_lent-end-6
slice_bounds-fit_lent-end-6 c = sym (length-take-le _ _ c.requires.py_len_5)

pub fit_lent-requires : goal.fit_lent-requires
fit_lent-requires c = let h = c.requires.py_len_5 in let n = c.requires.n_bound_1 in record { py_len_1 = c.requires.py_len_1; py_len_2 = c.requires.py_len_2; py_len_3 = c.requires.py_len_3; py_len_4 = c.requires.py_len_4; py_len_5 = h; roots_len_1 = length-take-le _ _ h; roots_len_2 = take_replicate (length c.args.px.now) 100 1 h; roots_len_3 = length-take-le _ _ h; n_bound_1 = n; n_bound_2 = c.requires.n_bound_2; n_bound_3 = c.requires.n_bound_3; up_len_1 = length-take-le _ _ (in-powers h); up_len_2 = length-take-le _ _ (in-powers h); up_len_3 = length-take-le _ _ (in_lines h n) }

pub returns : goal.returns
returns c = record { answer = c.fit_lent.ensures.answer; a = c.fit_lent.ensures.a; b = c.fit_lent.ensures.b }
