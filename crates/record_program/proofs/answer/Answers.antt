-- `record_program::answer` meets its contract: what was read decides which text is put at the front of the buffer, and it has room. Assumes nothing.
use Rattle.std.specs.Prelude.{Err}
use mathlib.Core.Path.{◌≡◌, refl, sym, ap, ◌∙◌}
use native.Mathlib.Omega.{arith}
use lib.ListN.{length}
use lib.Seq.{length-take-le}
use borrow.Author.Rules.{rules}
use Rattle.record_reader.specs.declared.WrongLine.{WrongLine}
use Rattle.record_program.specs.Program.{wrong_text}
use Rattle.record_program.proofs.Whole.{not_refused, wrong_is, shows, room_is, wrong_room, at_front}
use Rattle.record_program.proofs.answer.Goals as goal

pub term_count-n-requires : goal.term_count-n-requires
term_count-n-requires c =
    let k = shows _ _ _ _ _ _ _ _ _ _ _ refl refl c.read_record.ensures c.in-Ok.is refl in
    (k.least, omega (arith, k.low))

pub slice_bounds-a-end : goal.slice_bounds-a-end
slice_bounds-a-end c =
    let k = shows _ _ _ _ _ _ _ _ _ _ _ refl refl c.read_record.ensures c.in-Ok.is c.term_count-n.ensures in
    omega (arith, k.few, c.read_record.auto.a)

pub slice_bounds-put_shown-end-in-Ok : goal.slice_bounds-put_shown-end-in-Ok
slice_bounds-put_shown-end-in-Ok c =
    let k = shows _ _ _ _ _ _ _ _ _ _ _ refl refl c.read_record.ensures c.in-Ok.is c.term_count-n.ensures in
    sym (length-take-le _ _ (omega (arith, k.few, c.read_record.auto.a)))

pub slice_bounds-b-end : goal.slice_bounds-b-end
slice_bounds-b-end c =
    let k = shows _ _ _ _ _ _ _ _ _ _ _ refl refl c.read_record.ensures c.in-Ok.is c.term_count-n.ensures in
    omega (arith, k.few, c.read_record.auto.b)

pub slice_bounds-put_shown-end-in-Ok-2 : goal.slice_bounds-put_shown-end-in-Ok-2
slice_bounds-put_shown-end-in-Ok-2 c =
    let k = shows _ _ _ _ _ _ _ _ _ _ _ refl refl c.read_record.ensures c.in-Ok.is c.term_count-n.ensures in
    sym (length-take-le _ _ (omega (arith, k.few, c.read_record.auto.b)))

pub put_shown-requires : goal.put_shown-requires
put_shown-requires c =
    let k = shows _ _ _ _ _ _ _ _ _ _ _ refl refl c.read_record.ensures c.in-Ok.is c.term_count-n.ensures in
    let l : length c.args.out.now ≡ 1074 = search rules in
    (k.few_a, k.few_b, room_is _ _ l k.short)

pub put_wrong-requires : goal.put_wrong-requires
put_wrong-requires c =
    let l : length c.args.out.now ≡ 1074 = search rules in
    wrong_room _ _ l

pub returns-in-Ok : goal.returns-in-Ok
returns-in-Ok c =
    let k = shows _ _ _ _ _ _ _ _ _ _ _ refl refl c.read_record.ensures c.in-Ok.is c.term_count-n.ensures in
    let l : length c.args.out.now ≡ 1074 = search rules in let it = at_front _ _ _ _ _ k.text (room_is _ _ l k.short) c.put_shown.ensures in record { text = it.0; count = it.1.0; rest = it.1.1.0; fits = it.1.1.1 }

pub returns-in-Err-Wrong : goal.returns-in-Err-Wrong
returns-in-Err-Wrong c =
    let l : length c.args.out.now ≡ 1074 = search rules in
    let e = ap (λ (w : WrongLine). wrong_text w.line) c.in-Err-Wrong.wrong-is ∙ wrong_is _ _ _ _ _ _ _ refl refl c.read_record.ensures (c.in-Err-Wrong.is ∙ ap Err c.in-Err-Wrong.field-0-is) in let it = at_front _ _ _ _ _ e (wrong_room _ _ l) c.put_wrong.ensures in record { text = it.0; count = it.1.0; rest = it.1.1.0; fits = it.1.1.1 }

pub returns-in-Err-Refused : goal.returns-in-Err-Refused
returns-in-Err-Refused c = absurd (not_refused _ _ _ _ _ _ _ refl refl c.read_record.ensures (c.in-Err-Refused.is ∙ ap Err c.in-Err-Refused.field-0-is))
