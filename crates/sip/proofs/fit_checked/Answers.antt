-- `sip::fit_checked` meets its contract: the lists that are lent are as long as the terms. Assumes nothing.
use lib.Seq.{length-take-le}
use mathlib.Core.Path.{sym}
use Rattle.sip.proofs.fit_checked.Goals as goal

pub slice_bounds-x-end : goal.slice_bounds-x-end
slice_bounds-x-end c = c.requires.n_bound_1

pub slice_bounds-fit_into-end : goal.slice_bounds-fit_into-end
slice_bounds-fit_into-end c = sym (length-take-le _ _ c.requires.n_bound_1)

pub slice_bounds-y-end : goal.slice_bounds-y-end
slice_bounds-y-end c = c.requires.n_bound_1

pub slice_bounds-fit_into-end-2 : goal.slice_bounds-fit_into-end-2
slice_bounds-fit_into-end-2 c = sym (length-take-le _ _ c.requires.n_bound_1)

pub fit_into-requires : goal.fit_into-requires
fit_into-requires c = record { py_len_1 = c.requires.py_len_1; py_len_2 = c.requires.py_len_2; py_len_3 = c.requires.py_len_3; py_len_4 = c.requires.py_len_4; py_len_5 = c.requires.py_len_5; n_bound_1 = c.requires.n_bound_1; n_bound_2 = length-take-le _ _ c.requires.n_bound_1; n_bound_3 = length-take-le _ _ c.requires.n_bound_1; n_bound_4 = c.requires.n_bound_2; n_bound_5 = c.requires.n_bound_3 }

pub returns : goal.returns
returns c = record { answer = c.fit_into.ensures.answer; a = c.fit_into.ensures.a; b = c.fit_into.ensures.b }
