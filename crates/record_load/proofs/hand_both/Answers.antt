-- `record_load::hand_both` meets its contract: both lists are handed out, or none. Assumes nothing.
use lib.ListN.{length}
use Rattle.record_load.proofs.Laws.{room_of}
use mathlib.Core.Path.{sym, ◌∙◌}
use Rattle.record_load.proofs.hand_both.Goals as goal

pub hand_out-requires : goal.hand_out-requires
hand_out-requires c = (room_of (length c.args.xs.now) (length c.args.a.now) (length c.args.ys.now) (length c.args.b.now) (sym c.room_for_both.ensures ∙ c.in_ok-room_for_both.was)).0

pub hand_out-requires-2 : goal.hand_out-requires-2
hand_out-requires-2 c = (room_of (length c.args.xs.now) (length c.args.a.now) (length c.args.ys.now) (length c.args.b.now) (sym c.room_for_both.ensures ∙ c.in_ok-room_for_both.was)).1

pub returns : goal.returns
returns c = (sym c.in_ok-room_for_both.was ∙ c.room_for_both.ensures, c.hand_out.ensures, c.hand_out-2.ensures)
