-- `verify::score_sorted` meets its contract: the fronts of the arrays hold the rows in order. Assumes nothing.
use Rattle.verify.proofs.Sorting.{front_long, front_sorted, front_few}
use mathlib.Core.Path.{◌∙◌, sym}
use Rattle.verify.proofs.score_sorted.Goals as goal

pub slice_bounds-numbers_at-end : goal.slice_bounds-numbers_at-end
slice_bounds-numbers_at-end c = sym (front_long _ _ c.places_of-at.ensures.0 c.requires.px_nonzero_2)

pub numbers_at-xs-requires : goal.numbers_at-xs-requires
numbers_at-xs-requires c = front_few _ _ c.requires.px_nonzero_2

pub slice_bounds-numbers_at-end-2 : goal.slice_bounds-numbers_at-end-2
slice_bounds-numbers_at-end-2 c = sym (front_long _ _ c.places_of-at.ensures.0 c.requires.px_nonzero_2)

pub numbers_at-ys-requires : goal.numbers_at-ys-requires
numbers_at-ys-requires c = front_few _ _ c.requires.px_nonzero_2

pub slice_bounds-numbers_at-end-3 : goal.slice_bounds-numbers_at-end-3
slice_bounds-numbers_at-end-3 c = sym (front_long _ _ c.places_of-at.ensures.0 c.requires.px_nonzero_2)

pub numbers_at-xis-requires : goal.numbers_at-xis-requires
numbers_at-xis-requires c = front_few _ _ c.requires.px_nonzero_2

pub slice_bounds-numbers_at-end-4 : goal.slice_bounds-numbers_at-end-4
slice_bounds-numbers_at-end-4 c = sym (front_long _ _ c.places_of-at.ensures.0 c.requires.px_nonzero_2)

pub numbers_at-etas-requires : goal.numbers_at-etas-requires
numbers_at-etas-requires c = front_few _ _ c.requires.px_nonzero_2

pub slice_bounds-search-end : goal.slice_bounds-search-end
slice_bounds-search-end c = sym (front_long _ _ c.numbers_at-xs.ensures.0 c.requires.px_nonzero_2)

pub slice_bounds-search-end-2 : goal.slice_bounds-search-end-2
slice_bounds-search-end-2 c = sym (front_long _ _ c.numbers_at-ys.ensures.0 c.requires.px_nonzero_2)

pub slice_bounds-search-end-3 : goal.slice_bounds-search-end-3
slice_bounds-search-end-3 c = sym (front_long _ _ c.numbers_at-xis.ensures.0 c.requires.px_nonzero_2)

pub slice_bounds-search-end-4 : goal.slice_bounds-search-end-4
slice_bounds-search-end-4 c = sym (front_long _ _ c.numbers_at-etas.ensures.0 c.requires.px_nonzero_2)

pub search-requires : goal.search-requires
search-requires c =
    let e = front_long _ _ c.numbers_at-xs.ensures.0 c.requires.px_nonzero_2 in record { py_len_1 = front_long _ _ c.numbers_at-ys.ensures.0 c.requires.px_nonzero_2 ∙ sym e; py_len_2 = front_long _ _ c.numbers_at-xis.ensures.0 c.requires.px_nonzero_2 ∙ sym e; py_len_3 = front_long _ _ c.numbers_at-etas.ensures.0 c.requires.px_nonzero_2 ∙ sym e; px_nonzero = rw e c.requires.px_nonzero_1 }

pub returns : goal.returns
returns c =
    let s = c.args in
    let front = front_sorted s.px.now s.py.now in
    let at = c.places_of-at.result in
    let e = c.places_of-at.ensures.1 in
    c.search.ensures
    ∙ rw (front s.px.now _ at e c.numbers_at-xs.ensures.1, front s.py.now _ at e c.numbers_at-ys.ensures.1, front s.xi.now _ at e c.numbers_at-xis.ensures.1, front s.eta.now _ at e c.numbers_at-etas.ensures.1)
