-- The fits of a trial, from the sums that the code makes. Assumes nothing.
use Rattle.answer.specs.declared.Refusal.{Refusal}
use Rattle.std.specs.Prelude.{Result}
use mathlib.Core.Path.{◌≡◌, refl, sym, ap, ◌∙◌}
use mathlib.Core.Bool.{true, false}
use mathlib.Core.List.{List}
use mathlib.Core.Option.{Option, some, none}
use Prim.Native.Nat.{ℕ, ◌<◌}
use lib.ListN.{length, take}
use lib.Ieee.{Float}
use lib.Seq.{take_at}
use Rattle.answer.specs.Answers.{written}
use Rattle.rows.specs.Rows.{Rows, row_at}
use Rattle.rows.specs.Rows as rows
use Rattle.rows.specs.declared.Row.{Row}
use Rattle.draw.specs.Draw.{Triple, is_repeated}
use Rattle.draw.specs.Best.{count}
use Rattle.cd_plate.specs.declared.Cd.{Cd}
use Rattle.cd_mask.proofs.Marking.{length_marks}
use Rattle.cd_sums.specs.declared.Sums.{Sums}
use Rattle.cd_sums.specs.Sums.{xi_of, eta_of, three_sums, plain_sums}
use Rattle.cd_sums.specs.Both.{xi_part, eta_part, Both}
use Rattle.cd_sums.proofs.Three.{three_on}
use Rattle.cd_fit.specs.Fit.{fit_of}
use Rattle.cd_fit.proofs.Axes.{same_fit, fit_both}
use Rattle.cd_near.specs.Near.{near_marks, near_count}
use Rattle.cd_trial.specs.declared.Held.{Held}
use Rattle.cd_trial.specs.Trial.{triple_marks, model_of, fit_marked, fit_places, fit_triple, fit_again}
use Rattle.cd_trial.specs.Held.{Rising, IsHeld, IsCounted}
use Rattle.cd_trial.proofs.Triples.{triple_on}

-- two equal places have no plate
pub skipped : (r : Rows) (t : Triple) → is_repeated t ≡ true → none ≡ fit_places r t
unfolding fit_places
skipped r t e = rw e

-- three different ones have that of the sums of their rows, in rising order
pub three_fit : (r : Rows) (t s : Triple) → is_repeated t ≡ false → Rising t s → s.c < rows.count r
    → (p q w : Row) → p ≡ row_at r s.a → q ≡ row_at r s.b → w ≡ row_at r s.c
    → (sums : Sums) → Both sums (three_sums xi_of p q w) (three_sums eta_of p q w) → (f : Result Cd Refusal) → f ≡ fit_of (xi_part sums) (eta_part sums) → model_of f ≡ fit_places r t
unfolding fit_places fit_marked
three_fit r t s e u h p q w x y z sums b f d = rw e (ap model_of (d ∙ fit_both b ∙ sym (same_fit (sum xi_of) (sum eta_of))))
  where
    sum : (axis : Row → Float) → plain_sums r (triple_marks (rows.count r) t) axis (rows.count r) ≡ three_sums axis p q w
    sum axis = three_on r axis (triple_marks (rows.count r) t) (rows.count r) s.a s.b s.c (triple_on (rows.count r) t s u h) ∙ rw (x, y, z)

-- a mask that was written from the front begins with the near rows
pub near_length : (r : Rows) (limit : Float) (m : Cd) → length (near_marks r limit m) ≡ rows.count r
near_length r limit m = length_marks _ (rows.count r)

pub near_front : (r : Rows) (limit : Float) (m : Cd) (old mask : List ℕ) → mask ≡ written (near_marks r limit m) old → take (rows.count r) mask ≡ near_marks r limit m
near_front r limit m old mask e = ap (take (rows.count r)) e ∙ take_at (near_marks r limit m) _ (rows.count r) (near_length r limit m)

-- the refit, from the sums over that mask
pub again_fit : (r : Rows) (limit : Float) (m : Cd) (mask : List ℕ) → mask ≡ near_marks r limit m
    → (sums : Sums) → Both sums (plain_sums r mask xi_of (rows.count r)) (plain_sums r mask eta_of (rows.count r))
    → (f : Result Cd Refusal) → f ≡ fit_of (xi_part sums) (eta_part sums) → model_of f ≡ fit_again r limit m
unfolding fit_again fit_marked
again_fit r limit m mask e sums b f d =
    ap model_of (d ∙ fit_both b ∙ ap (λ l. fit_of (plain_sums r l xi_of (rows.count r)) (plain_sums r l eta_of (rows.count r))) e)

-- what is held has its number of rows, whatever the pool
pub held_counted : (r : Rows) (limit : Float) (pool other : List ℕ) (o : Option Cd) (h : Held) → IsHeld r limit pool o h → IsCounted r limit other h
held_counted r limit pool other o h d = d.rows_on ∙ sym (ap counted d.model) ∙ same (model_of h.fit)
  where
    counted : Option Cd → ℕ
    counted = count (fit_triple r pool) (fit_again r limit) (near_count r limit)

    same : (x : Option Cd) → counted x ≡ count (fit_triple r other) (fit_again r limit) (near_count r limit) x
    same none = refl
    same (some m) = refl
