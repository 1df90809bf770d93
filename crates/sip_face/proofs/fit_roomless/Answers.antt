-- `sip_face::fit_roomless` meets its contract: without room for a the call is refused, and the lists stay. Assumes nothing.
use Rattle.sip_face.proofs.Roomless.{roomless, number_told}
use Rattle.sip_sums.specs.Field.{field}
use Rattle.rows.specs.Rows.{rows}
use lib.ListN.{length}
use mathlib.Core.Path.{◌∙◌}
use Rattle.sip_face.proofs.fit_roomless.Goals as goal

pub returns : goal.returns
returns c = let g = c.args in let p = c.fit_sip in
    let w = roomless (field (rows g.px.now g.py.now g.xi.now g.eta.now) g.snr.now g.wcs) g.order (length g.b.now) in
    let e = p.ensures.answer ∙ w.is in record { number = c.number.ensures ∙ number_told p.result ∙ rw p.ensures.answer; a = rw (rw e at p.ensures.a); b = rw e at p.ensures.b }
