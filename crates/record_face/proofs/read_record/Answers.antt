-- `record_face::read_record` meets its contract: the inner call reads, and what it answers is filled in. Assumes nothing.
use mathlib.Core.Path.{refl, sym}
use lib.ListN.{length}
use lib.Seq.{length-take-le}
use Rattle.record_face.specs.Read.{lent}
use Rattle.record_face.proofs.Read.{read_is, room_read}
use Rattle.record_face.proofs.read_record.Goals as goal

pub slice_bounds-read_record-end-2 : goal.slice_bounds-read_record-end-2
slice_bounds-read_record-end-2 c = sym (length-take-le c.places-room.result c.args.a.now c.places-room.ensures.1)

pub put_loaded-requires : goal.put_loaded-requires
put_loaded-requires c = room_read c.args.text.now c.args.a.now c.args.b.now (length c.args.wcs.now) (length c.args.sums.now) c.read_record-read.result _ _ (rw c.places-room.ensures.0 at c.read_record-read.ensures)

pub returns : goal.returns
returns c =
    let g = c.args in
    let room = c.places-room.ensures.0 in
    read_is g.text.now (lent g.format.now g.rows_used.now g.wcs.now g.order.now g.a.now g.b.now g.sums.now g.line.now) _ c.read_record-read.result _ _ _
    (record { inner = (rw room at c.read_record-read.ensures); number = c.put_loaded.ensures.number; a_is = rw room refl; b_is = refl; rest = c.put_loaded.ensures.after })
