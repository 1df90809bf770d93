-- What an input is like that passed its tests. Assumes nothing.
use Rattle.std.specs.Prelude.{Ok}
use mathlib.Core.Path.{◌≡◌}
use mathlib.Core.Bool.{not, ◌&&◌, and-eq-true_iff}
use mathlib.Core.List.{List}
use Prim.Native.Nat.{ℕ}
use lib.Dec.{leb}
use lib.ListN.{length}
use lib.Ieee.{Float}
use borrow.Author.Tests.{not-false, eqb-true}
use lib.Dec.{eqb}
use Rattle.answer.proofs.Passed.{passed}
use Rattle.rows.specs.Rows.{Rows, count}
use Rattle.cd_plate.specs.Masked.{few_masked, even_masked}
use Rattle.cd_plate.proofs.Even.{Even, even}
use Rattle.cd_fit.specs.Fit.{masked_answer, weighed_answer}

pub masked : (r : Rows) (mask : List ℕ) → masked_answer r mask ≡ Ok tt → Even r mask
unfolding masked_answer
masked r mask e =
    let f = passed (not (few_masked r mask)) _ _ e in
    let g = passed (not (even_masked r mask)) _ _ f.1 in
    even r mask (not-false (even_masked r mask) g.0)

pub weighed : (r : Rows) (mask : List ℕ) (ws : List Float) → weighed_answer r mask ws ≡ Ok tt → Even r mask × (length ws ≡ count r)
unfolding weighed_answer
weighed r mask ws e =
    let f = passed (not (few_masked r mask && leb (length ws) 100)) _ _ e in
    let g = passed (not (even_masked r mask && eqb (length ws) (count r))) _ _ f.1 in
    let all = (and-eq-true_iff (even_masked r mask) _).0 (not-false (even_masked r mask && eqb (length ws) (count r)) g.0) in
    (even r mask all.0, eqb-true _ _ all.1)
