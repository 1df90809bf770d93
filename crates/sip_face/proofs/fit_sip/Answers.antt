-- `sip_face::fit_sip` meets its contract: six numbers make a WCS, and then the inner call decides. Assumes nothing.
use Rattle.sip_face.proofs.Roomless.{roomless}
use Rattle.sip_sums.specs.Field.{field}
use Rattle.rows.specs.Rows.{rows}
use borrow.Author.Tests.{eq-eqb, ne_eqb, lt-ltb, le-ltb}
use lib.ListN.{length}
use mathlib.Core.Path.{refl}
use Rattle.sip_face.proofs.fit_sip.Goals as goal

pub returns-then-few_rows-snr : goal.returns-then-few_rows-snr
returns-then-few_rows-snr c = rw (ne_eqb _ _ c.if-wcs-ne6.true, ← c.few_rows.ensures, c.if-few_rows-snr.true) (record { number = c.number.ensures; a = refl; b = refl; rows = refl; sums = refl })

pub returns-then-wcs-ne6 : goal.returns-then-wcs-ne6
returns-then-wcs-ne6 c = rw (ne_eqb _ _ c.if-wcs-ne6.true, ← c.few_rows.ensures, c.if-few_rows-snr.false) (record { number = c.number-then-wcs-ne6.ensures; a = refl; b = refl; rows = refl; sums = refl })

pub returns-then-sums-lt-SUMS : goal.returns-then-sums-lt-SUMS
returns-then-sums-lt-SUMS c = let g = c.args in let p = c.fit_roomless in
    let w = roomless (field (rows g.px.now g.py.now g.xi.now g.eta.now) g.snr.now c.of-w.result) g.order (length g.b.now) in rw (eq-eqb _ _ c.if-wcs-ne6.false, ← c.of-w.ensures, lt-ltb _ _ c.if-sums-lt-SUMS.true, w.is) (record { number = rw w.is at p.ensures.number; a = p.ensures.a; b = p.ensures.b; rows = refl; sums = refl })

pub returns : goal.returns
returns c = let p = c.fit_sip-fit in let q = c.put_fit in rw (eq-eqb _ _ c.if-wcs-ne6.false, ← c.of-w.ensures, le-ltb _ _ c.if-sums-lt-SUMS.false, ← p.ensures.answer) (record { number = q.ensures.number; a = p.ensures.a; b = p.ensures.b; rows = q.ensures.rows; sums = q.ensures.sums })
