-- What an input is like that passed its tests. Assumes nothing.
use Rattle.std.specs.Prelude.{Ok}
use mathlib.Core.Path.{◌≡◌}
use mathlib.Core.Bool.{not, ◌&&◌}
use mathlib.Core.List.{List}
use Prim.Native.Nat.{ℕ, ◌≤◌}
use lib.Dec.{ltb}
use borrow.Author.Tests.{not-false, ltb-false}
use Rattle.answer.proofs.Passed.{passed}
use Rattle.rows.specs.Rows.{Rows, count}
use Rattle.cd_plate.specs.declared.Cd.{Cd}
use Rattle.cd_plate.specs.Plate.{is_cd}
use Rattle.cd_plate.specs.Masked.{few_masked, even_masked, good_masked}
use Rattle.cd_plate.proofs.Even.{Even, even}
use Rattle.cd_errors.specs.Errors.{errors_answer}

pub checked : (r : Rows) (mask : List ℕ) (cd : Cd) (places : ℕ) → errors_answer r mask cd places ≡ Ok tt → Even r mask × (count r ≤ places)
unfolding errors_answer
checked r mask cd places e =
    let f = passed (not (few_masked r mask)) _ _ e in
    let g = passed (not (even_masked r mask)) _ _ f.1 in
    let h = passed (not (good_masked r mask && is_cd cd)) _ _ g.1 in
    let room = passed (ltb places (count r)) _ _ h.1 in
    (even r mask (not-false (even_masked r mask) g.0), ltb-false places (count r) room.0)
