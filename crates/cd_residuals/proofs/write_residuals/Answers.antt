-- `cd_residuals::write_residuals` meets its contract: a refusal keeps the lists, and lists with the room take what the definition names. Assumes nothing.
use Rattle.cd_residuals.proofs.Passed.{room, found_most}
use mathlib.Core.Path.{◌∙◌, refl, sym}
use borrow.Author.Rules.{rules}
use Rattle.cd_residuals.proofs.write_residuals.Goals as goal

pub put_residuals-requires : goal.put_residuals-requires
put_residuals-requires c =
    let k = room _ _ _ _ (sym c.room_of.ensures ∙ c.in_ok-room_of.was) in record { py_len_1 = search rules; py_len_2 = search rules; py_len_3 = search rules; n_in_bounds_1 = rw c.found_of-n.ensures (found_most _ _); n_in_bounds_2 = k.in_x; n_in_bounds_3 = k.in_y; n_in_bounds_4 = k.in_px }

pub returns : goal.returns
returns c =
    let p = c.put_residuals.ensures in
    rw (← c.found_of-n.ensures, ← c.room_of.ensures, c.in_ok-room_of.was, ← c.plate.ensures, ← c.inverse-v.ensures) (refl, p.0, p.1, p.2)
