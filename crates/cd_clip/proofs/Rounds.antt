-- The ways out of a round, from what its parts gave. Assumes nothing.
use Rattle.std.specs.Prelude.{Ok, Err}
use mathlib.Core.Path.{◌≡◌, sym, ap, ◌∙◌}
use mathlib.Core.Bool.{Bool, true, false, cond, not}
use mathlib.Core.List.{List, ◌++◌}
use Prim.Native.Nat.{ℕ, suc, ◌≤◌, ◌<◌}
use borrow.Author.Tests.{lt-ltb, le-ltb}
use lib.Dec.{ltb}
use lib.ListN.{length, take}
use lib.Seq.{take_at}
use lib.Ieee.{Float}
use Rattle.answer.specs.declared.Refusal.{Refusal}
use Rattle.rows.specs.Rows.{Rows, count}
use Rattle.cd_plate.specs.declared.Cd.{Cd}
use Rattle.cd_plate.specs.declared.Inverse.{Inverse}
use Rattle.cd_plate.specs.Plate.{inverse_of}
use Rattle.cd_plate.specs.Errors.{errors_of}
use Rattle.cd_plate.proofs.Filling.{filled_length}
use Rattle.cd_mask.specs.Marks.{ones}
use Rattle.cd_round.specs.declared.Clip.{Clip}
use Rattle.cd_round.specs.Round.{root_at, roots_of, squares_to, clip_of, any_rejected, mask_left}
use Rattle.cd_clip.specs.declared.Clipped.TheVariants as clipped
use Rattle.cd_clip.specs.Clip.{refit_of, Last, Refitted, round_of, ended, after, clip_from}
use Rattle.cd_clip.proofs.Loops.{Summed, all_errors, all_summed, all_on, Sifted, all_sifted, all_any, all_left}

-- what the parts of a round gave: the errors, how many rows are on, what it rejects by, whether it rejects any, the mask that is kept, and how many rows are left
pub record Parts (r : Rows) (ws : List Float) (mask : List ℕ) (cd : Cd) (errors roots : List Float) (on : ℕ) (sum : Float) (clip : Clip) (any : Bool) (kept : List ℕ) (left : ℕ) : Type 0 where
  pub errors_are : errors ≡ errors_of r mask (inverse_of cd)
  pub roots_are : roots ≡ roots_of ws
  pub on_are : on ≡ ones mask
  pub sum_is : sum ≡ squares_to errors ws mask (length mask)
  pub clip_is : clip ≡ clip_of sum on
  pub any_is : any ≡ any_rejected errors roots mask clip (length mask)
  pub kept_is : kept ≡ mask_left errors roots mask clip
  pub left_is : left ≡ ones kept

-- those of a round whose loops went over all rows
pub parts_of : {r : Rows} {ws : List Float} {mask : List ℕ} {cd : Cd} {v : Inverse} {old errors roots : List Float} {on i : ℕ} {sum : Float} {clip : Clip} {any : Bool} {kept : List ℕ} {left j : ℕ}
    → length mask ≡ count r → length old ≡ count r → v ≡ inverse_of cd → roots ≡ roots_of ws → clip ≡ clip_of sum on
    → Summed r ws mask v old errors sum on i → i ≡ count r → Sifted errors roots mask clip kept any left j → j ≡ count r
    → Parts r ws mask cd errors roots on sum clip any kept left
parts_of {r} {ws} {mask} {cd} {v} {old} {errors} {roots} lm lo v-is roots-is clip_is s all t all-again = record {
  errors_are = all_errors r ws mask v old s all lm lo ∙ ap (errors_of r mask) v-is;
  roots_are = roots-is;
  on_are = all_on r ws mask v old s all lm lo;
  sum_is = all_summed r ws mask v old s all lm lo;
  clip_is = clip_is;
  any_is = all_any errors roots mask _ t (all-again ∙ sym lm);
  kept_is = all_sifted errors roots mask _ t (all-again ∙ sym lm);
  left_is = all_left errors roots mask _ t (all-again ∙ sym lm);
}

module _ (r : Rows) (ws : List Float) (mask : List ℕ) (cd : Cd) (k : ℕ) where
  -- fewer than three rows are on
  pub few_on : ones mask < 3 → clip_from (suc k) r ws mask cd ≡ ended (Ok (clipped.Done cd)) mask
  unfolding clip_from round_of
  few_on h = rw (lt-ltb (ones mask) 3 h)

  module _ {errors roots : List Float} {on : ℕ} {sum : Float} {clip : Clip} {any : Bool} {kept : List ℕ} {left : ℕ} (p : Parts r ws mask cd errors roots on sum clip any kept left) (h : 3 ≤ on) where
    opened : clip_from (suc k) r ws mask cd ≡ after (clip_from k r ws) cd (cond (not any) (Last kept) (cond (ltb left 3) (Last kept) (Refitted kept (refit_of r ws kept))))
    unfolding clip_from round_of
    opened =
        let three : 3 ≤ ones mask = rw p.on_are at h in
        rw (le-ltb (ones mask) 3 three, p.any_is, p.left_is, p.kept_is, p.clip_is, p.sum_is, p.on_are, p.errors_are, p.roots_are)

    -- none is rejected
    pub none_rejected : any ≡ false → clip_from (suc k) r ws mask cd ≡ ended (Ok (clipped.Done cd)) kept
    none_rejected a = opened ∙ rw a

    -- fewer than three are left
    pub few_left : any ≡ true → left < 3 → clip_from (suc k) r ws mask cd ≡ ended (Ok (clipped.Done cd)) kept
    few_left a l = opened ∙ rw (a, lt-ltb left 3 l)

    refitted : any ≡ true → 3 ≤ left → clip_from (suc k) r ws mask cd ≡ after (clip_from k r ws) cd (Refitted kept (refit_of r ws kept))
    refitted a l = opened ∙ rw (a, le-ltb left 3 l)

    -- the rows that are left have a plate
    pub goes_on : any ≡ true → 3 ≤ left → (next : Cd) → refit_of r ws kept ≡ Ok next → clip_from (suc k) r ws mask cd ≡ clip_from k r ws kept next
    goes_on a l next e = refitted a l ∙ rw e

    -- or they have none
    pub stopped : any ≡ true → 3 ≤ left → (why : Refusal) → refit_of r ws kept ≡ Err why → clip_from (suc k) r ws mask cd ≡ ended (Ok (clipped.Stopped cd)) kept
    stopped a l why e = refitted a l ∙ rw e

-- the front of a list that starts with the roots of n weights
pub roots_front : (ws rest list : List Float) (n : ℕ) → list ≡ roots_of ws ++ rest → length ws ≡ n → take n list ≡ roots_of ws
roots_front ws rest list n e l = rw e (take_at (roots_of ws) rest n (filled_length (root_at ws) (length ws) ∙ l))
