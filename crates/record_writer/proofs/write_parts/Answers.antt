-- `record_writer::write_parts` meets its contract: each part has room once those before it are put, and together they are the whole. Assumes nothing.
use mathlib.Core.Path.{◌∙◌, ap}
use mathlib.Core.List.{List}
use Prim.Native.Nat.{ℕ}
use denote.Ref.{MutBor}
use Rattle.put.specs.Put.{Put, Room}
use Rattle.put.proofs.Writing.{then, room_first, room_next}
use Rattle.record_writer.specs.declared.Writer.{Writer}
use Rattle.record_writer.specs.Wrote.{parts_text}
use Rattle.record_writer.proofs.Writes.{wrote_put}
use Rattle.record_writer.proofs.write_parts.Goals as goal

pub head-w-requires : goal.head-w-requires
unfolding parts_text
head-w-requires c = rw (c.new.ensures.0, c.new.ensures.1) (room_first _ c.requires.2)

pub axis-w-requires : goal.axis-w-requires
unfolding parts_text
axis-w-requires c =
    let n = c.new.ensures in
    let room : Room c.new.result.buf.now c.new.result.at (parts_text c.args.start c.args.a c.args.b c.args.fit) = rw (n.0, n.1) c.requires.2 in
    (c.requires.0, room_first _ (room_next room (wrote_put _ _ _ c.head-w.ensures)))

pub axis-w-requires-2 : goal.axis-w-requires-2
unfolding parts_text
axis-w-requires-2 c =
    let n = c.new.ensures in
    let room : Room c.new.result.buf.now c.new.result.at (parts_text c.args.start c.args.a c.args.b c.args.fit) = rw (n.0, n.1) c.requires.2 in
    (c.requires.1, room_first _ (room_next (room_next room (wrote_put _ _ _ c.head-w.ensures)) (wrote_put _ _ _ c.axis-w.ensures)))

pub errors-requires : goal.errors-requires
unfolding parts_text
errors-requires c =
    let n = c.new.ensures in
    let room : Room c.new.result.buf.now c.new.result.at (parts_text c.args.start c.args.a c.args.b c.args.fit) = rw (n.0, n.1) c.requires.2 in
    room_next (room_next (room_next room (wrote_put _ _ _ c.head-w.ensures)) (wrote_put _ _ _ c.axis-w.ensures)) (wrote_put _ _ _ c.axis-w-2.ensures)

pub returns-clause-same_reference : goal.returns-clause-same_reference
returns-clause-same_reference c =
    let name = λ (w : Writer). w.buf.ghost_name in
    ap name c.errors.ensures ∙ ap name c.axis-w-2.ensures ∙ ap name c.axis-w.ensures ∙ ap name c.head-w.ensures ∙ ap (λ (r : MutBor (List ℕ)). r.ghost_name) c.new.ensures.0

pub returns-clause-wrote : goal.returns-clause-wrote
unfolding parts_text
returns-clause-wrote c =
    let n = c.new.ensures in
    let all : Put c.new.result.buf.now c.new.result.at (parts_text c.args.start c.args.a c.args.b c.args.fit) c.errors.result.at c.errors.result.buf.now =
    then (wrote_put _ _ _ c.head-w.ensures) (then (wrote_put _ _ _ c.axis-w.ensures) (then (wrote_put _ _ _ c.axis-w-2.ensures) (wrote_put _ _ _ c.errors.ensures))) in
    rw (← n.0, ← n.1) all
