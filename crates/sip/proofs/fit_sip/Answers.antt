-- `sip::fit_sip` meets its contract: the tests decide, then the fit. Assumes nothing.
use Rattle.sip_tests.proofs.Passed.{tested_field, tested_order}
use Rattle.sip_terms.proofs.Places.{few_terms}
use Rattle.sip_sums.specs.Field.{field}
use Rattle.rows.specs.Rows.{rows}
use lib.ListN.{length}
use native.Mathlib.Omega.{arith}
use mathlib.Core.Path.{◌∙◌, sym}
use borrow.Author.Rules.{rules}
use Rattle.sip.proofs.fit_sip.Goals as goal

pub term_count-n-requires : goal.term_count-n-requires
term_count-n-requires c = let g = c.args in let f = field (rows g.px.now g.py.now g.xi.now g.eta.now) g.snr.now g.wcs in let o = tested_order f g.order (length g.a.now) (length g.b.now) (sym c.check_call.ensures ∙ c.in_ok-check_call.was) in (o.least, omega (arith, o.most))

pub fit_checked-requires : goal.fit_checked-requires
fit_checked-requires c = let g = c.args in let f = field (rows g.px.now g.py.now g.xi.now g.eta.now) g.snr.now g.wcs in let e = sym c.check_call.ensures ∙ c.in_ok-check_call.was in let o = tested_order f g.order (length g.a.now) (length g.b.now) e in let k = tested_field f g.order (length g.a.now) (length g.b.now) e in record { py_len_1 = k.py_long; py_len_2 = k.xi_long; py_len_3 = k.eta_long; py_len_4 = k.snr_long; py_len_5 = k.few; n_bound_1 = rw c.term_count-n.ensures (few_terms g.order o.most); n_bound_2 = rw c.term_count-n.ensures o.room_a; n_bound_3 = rw c.term_count-n.ensures o.room_b }

pub returns : goal.returns
returns c = let p = c.fit_checked in let t = c.term_count-n.ensures in record { answer = rw (← c.check_call.ensures, c.in_ok-check_call.was) (rw t at p.ensures.answer); a = rw t at p.ensures.a; b = rw t at p.ensures.b }
