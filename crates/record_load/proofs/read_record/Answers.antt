-- `record_load::read_record` meets its contract: what is shown is handed out where there is room, and of a wrong text nothing. Assumes nothing.
use Rattle.std.proofs.lemmas.Result.{err_from_is_err_and}
use mathlib.Core.Path.{refl, sym}
use native.Mathlib.Omega.{arith}
use lib.Seq.{length-take-le}
use Rattle.record_reader.specs.Reading.{record_in}
use Rattle.record_load.proofs.Laws.{handed}
use Rattle.record_load.proofs.read_record.Goals as goal

pub slice_bounds-hand_both-end : goal.slice_bounds-hand_both-end
slice_bounds-hand_both-end c = sym (length-take-le c.terms-n.result c.load-shown.new.xs (omega (arith, c.terms-n.ensures.1, c.load-shown.ensures.2)))

pub slice_bounds-hand_both-end-2 : goal.slice_bounds-hand_both-end-2
slice_bounds-hand_both-end-2 c = sym (length-take-le c.terms-n.result c.load-shown.new.ys (omega (arith, c.terms-n.ensures.1, c.load-shown.ensures.3)))

pub returns-in_err-hand_both : goal.returns-in_err-hand_both
returns-in_err-hand_both c =
    let p = err_from_is_err_and c.from_residual.result c.from_residual.ensures.1 in
    handed (record_in c.args.text.now) c.load-shown.result c.terms-n.result c.load-shown.new.xs c.load-shown.new.ys c.args.a.now c.args.b.now _ _ c.hand_both.result _
    c.load-shown.ensures.0 c.terms-n.ensures.0 c.hand_both.ensures.0 c.hand_both.ensures.1 c.hand_both.ensures.2 (rw (p.1, p.2, c.in_err-hand_both.was) refl)

pub returns-in_err-shown : goal.returns-in_err-shown
returns-in_err-shown c =
    let p = err_from_is_err_and c.from_residual-in_err-shown.result c.from_residual-in_err-shown.ensures.1 in
    handed (record_in c.args.text.now) c.load-shown.result c.terms-n.result c.load-shown.new.xs c.load-shown.new.ys c.args.a.now c.args.b.now _ _ c.hand_both.result _
    c.load-shown.ensures.0 c.terms-n.ensures.0 c.hand_both.ensures.0 c.hand_both.ensures.1 c.hand_both.ensures.2 (rw (p.1, p.2, c.in_ok-hand_both.was, c.in_err-shown.was) refl)

pub returns : goal.returns
returns c = handed (record_in c.args.text.now) c.load-shown.result c.terms-n.result c.load-shown.new.xs c.load-shown.new.ys c.args.a.now c.args.b.now _ _ c.hand_both.result _
    c.load-shown.ensures.0 c.terms-n.ensures.0 c.hand_both.ensures.0 c.hand_both.ensures.1 c.hand_both.ensures.2 (rw (c.in_ok-hand_both.was, c.in_ok-shown.was) refl)
