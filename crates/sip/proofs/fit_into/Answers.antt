-- `sip::fit_into` meets its contract: a fit that is done is copied, and any other leaves the lists. Assumes nothing.
use Rattle.std.specs.Prelude.{Ok}
use native.Mathlib.Omega.{arith}
use Rattle.sip.proofs.Ending.{copied}
use Rattle.sip.specs.Call.{coefficients_a, coefficients_b, answer_of}
use Rattle.sip_rounds.specs.Rounds.{rounds_of}
use Rattle.sip_sums.specs.Field.{field}
use Rattle.rows.specs.Rows.{rows}
use lib.Seq.{length-take-le}
use mathlib.Core.Path.{◌≡◌, ◌∙◌, sym}
use borrow.Author.Rules.{rules}
use Rattle.sip.proofs.fit_into.Goals as goal

pub fit_terms-requires : goal.fit_terms-requires
fit_terms-requires c = record { py_len_1 = c.requires.py_len_1; py_len_2 = c.requires.py_len_2; py_len_3 = c.requires.py_len_3; py_len_4 = c.requires.py_len_4; py_len_5 = c.requires.py_len_5; n_bound_1 = c.requires.n_bound_1; n_bound_2 = c.requires.n_bound_2; n_bound_3 = c.requires.n_bound_3 }

pub slice_bounds-copy_row-end : goal.slice_bounds-copy_row-end
slice_bounds-copy_row-end c = c.requires.n_bound_4

pub slice_bounds-copy_row-end-2 : goal.slice_bounds-copy_row-end-2
slice_bounds-copy_row-end-2 c = sym (length-take-le _ _ c.requires.n_bound_4)

pub copy_row-requires : goal.copy_row-requires
copy_row-requires c = omega (arith, length-take-le c.args.n c.args.a.now c.requires.n_bound_4, c.fit_terms.auto.a ∙ c.requires.n_bound_2, c.fit_terms.auto.b ∙ c.requires.n_bound_3)

pub slice_bounds-copy_row-end-3 : goal.slice_bounds-copy_row-end-3
slice_bounds-copy_row-end-3 c = c.requires.n_bound_5

pub slice_bounds-copy_row-end-4 : goal.slice_bounds-copy_row-end-4
slice_bounds-copy_row-end-4 c = sym (length-take-le _ _ c.requires.n_bound_5)

pub copy_row-requires-2 : goal.copy_row-requires-2
copy_row-requires-2 c = omega (arith, length-take-le c.args.n c.args.b.now c.requires.n_bound_5, c.fit_terms.auto.a ∙ c.requires.n_bound_2, c.fit_terms.auto.b ∙ c.requires.n_bound_3)

pub returns : goal.returns
returns c = let p = c.fit_terms in let g = c.args in
    let f = field (rows g.px.now g.py.now g.xi.now g.eta.now) g.snr.now g.wcs in
    let d : answer_of p.result ≡ (Ok tt) = rw c.in_ok-sip.was in record { answer = sym c.in_ok-sip.was ∙ p.ensures.answer; a = copied c.copy_row.new.to p.new.a (coefficients_a (rounds_of f g.n)) g.a.now g.n (p.auto.a ∙ c.requires.n_bound_2) c.copy_row.ensures (p.ensures.a d); b = copied c.copy_row-2.new.to p.new.b (coefficients_b (rounds_of f g.n)) g.b.now g.n (p.auto.b ∙ c.requires.n_bound_3) c.copy_row-2.ensures (p.ensures.b d) }
