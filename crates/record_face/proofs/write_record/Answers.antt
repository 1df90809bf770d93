-- `record_face::write_record` meets its contract: six numbers make a WCS and three the sums, and then the inner call decides. Assumes nothing.
use native.Mathlib.Omega.{arith}
use borrow.Author.Tests.{lt-ltb, le-ltb}
use mathlib.Core.Path.{refl, sym, ◌∙◌}
use lib.ListN.{length}
use Rattle.record.specs.Record.{solution, record_text, record_done}
use Rattle.record_face.proofs.Ended.{refused, done, six_three}
use Rattle.record_face.proofs.write_record.Goals as goal

pub returns-then-rows-gt-MOST_ROWS : goal.returns-then-rows-gt-MOST_ROWS
returns-then-rows-gt-MOST_ROWS c = rw (c.if-wcs-sums.true, lt-ltb _ _ c.if-rows-gt-MOST_ROWS.true) (record { number = c.number.ensures; text = refl; written = refl })

pub returns-then-wcs-sums : goal.returns-then-wcs-sums
returns-then-wcs-sums c = rw (c.if-wcs-sums.true, le-ltb _ _ c.if-rows-gt-MOST_ROWS.false) (record { number = c.number-then-wcs-sums.ensures; text = refl; written = refl })

pub sip_in-fit-requires : goal.sip_in-fit-requires
sip_in-fit-requires c = omega (arith, (six_three (length c.args.wcs.now) (length c.args.sums.now) c.if-wcs-sums.false).1)

pub of-requires : goal.of-requires
of-requires c = omega (arith, (six_three (length c.args.wcs.now) (length c.args.sums.now) c.if-wcs-sums.false).0)

pub returns-in-Err : goal.returns-in-Err
returns-in-Err c = let e = refused (record_done (solution c.sip_in-fit.result c.of.result c.args.order c.args.a.now c.args.b.now) (length c.args.text.now)) (length (record_text (solution c.sip_in-fit.result c.of.result c.args.order c.args.a.now c.args.b.now))) _ (sym c.write_record.ensures.answer ∙ c.in-Err.is) in rw (c.if-wcs-sums.false, ← c.sip_in-fit.ensures, ← c.of.ensures, e) (record { number = c.number-in-Err.ensures; text = rw e at c.write_record.ensures.text; written = refl })

pub returns-in-Ok : goal.returns-in-Ok
returns-in-Ok c = let e = done (record_done (solution c.sip_in-fit.result c.of.result c.args.order c.args.a.now c.args.b.now) (length c.args.text.now)) (length (record_text (solution c.sip_in-fit.result c.of.result c.args.order c.args.a.now c.args.b.now))) _ (sym c.write_record.ensures.answer ∙ c.in-Ok.is) in rw (c.if-wcs-sums.false, ← c.sip_in-fit.ensures, ← c.of.ensures, e.0) (record { number = refl; text = rw e.0 at c.write_record.ensures.text; written = e.1 })
