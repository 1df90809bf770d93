-- What a clip keeps: a row that is off stays off, a clip that ends with fewer than three rows is done, and a refusal leaves the mask. Assumes nothing.
use Rattle.std.specs.Prelude.{Result, Ok, Err}
use mathlib.Core.Path.{◌≡◌, refl, ap, ◌∙◌}
use mathlib.Core.Logic.{◌⊎◌, inl, inr, ⊎_elim}
use mathlib.Core.Bool.{Bool, true, false, cond, not}
use mathlib.Core.List.{List}
use Prim.Native.Nat.{ℕ, zero, suc, ◌≤◌, ◌<◌}
use native.Mathlib.Nat.{le_of_suc-le-suc, not-le_of_lt, lt_of_not-le}
use native.Mathlib.Decide.{dec_lt}
use borrow.Author.Tests.{ltb-false}
use lib.Dec.{ltb, eqb}
use lib.ListN.{length, get_or, get_or-eq_default}
use lib.Ieee.{Float}
use Rattle.answer.specs.declared.Refusal.{Refusal}
use Rattle.rows.specs.Rows.{Rows}
use Rattle.cd_plate.specs.declared.Cd.{Cd}
use Rattle.cd_plate.specs.Plate.{inverse_of}
use Rattle.cd_plate.specs.Errors.{errors_of}
use Rattle.cd_plate.specs.Masked.{is_on}
use Rattle.cd_plate.proofs.Filling.{filled_length, filled_at}
use Rattle.cd_mask.specs.Marks.{ones}
use Rattle.cd_round.specs.declared.Clip.{Clip}
use Rattle.cd_round.specs.Round.{roots_of, squares_to, clip_of, is_rejected, any_rejected, byte_left, mask_left}
use Rattle.cd_clip.specs.declared.Clipped.TheVariants as clipped
use Rattle.cd_clip.specs.Clip.{refit_of, Round, Last, Refitted, round_of, Ended, ended, after, clip_from, clip_tests, ended_after, sigma_clip}

-- ---- a mask only falls

-- each byte is as it was, or 0
abbrev pub Falls : List ℕ → List ℕ → Type 0
Falls mask m = (i : ℕ) → (get_or m i 0 ≡ get_or mask i 0) ⊎ (get_or m i 0 ≡ 0)

then_falls : (a b c : List ℕ) → Falls a b → Falls b c → Falls a c
then_falls a b c p q i = ⊎_elim (λ e. ⊎_elim (λ d. inl (e ∙ d)) (λ z. inr (e ∙ z)) (p i)) inr (q i)

module _ (errors roots : List Float) (mask : List ℕ) (clip : Clip) where
  left_falls : Falls mask (mask_left errors roots mask clip)
  left_falls i = go (dec_lt i (length mask))
    where
      byte : (b : Bool) → (cond b 0 (get_or mask i 0) ≡ get_or mask i 0) ⊎ (cond b 0 (get_or mask i 0) ≡ 0)
      byte true = inr refl
      byte false = inl refl

      past : (i < length mask → ⊥) → length (mask_left errors roots mask clip) ≤ i
      past n = rw (filled_length (byte_left errors roots mask clip) (length mask)) (le_of_suc-le-suc (lt_of_not-le n))

      go : Dec (i < length mask) → (get_or (mask_left errors roots mask clip) i 0 ≡ get_or mask i 0) ⊎ (get_or (mask_left errors roots mask clip) i 0 ≡ 0)
      go (yes h) = rw (filled_at (byte_left errors roots mask clip) (length mask) i 0 h) (byte (is_rejected errors roots mask clip i))
      go (no n) = inr (get_or-eq_default (mask_left errors roots mask clip) 0 {n = i} (past n))

-- ---- a round: its mask falls, and it is the last where fewer than three rows are left

abbrev Fair : List ℕ → Round → Type 0
Fair mask (Last m) = Falls mask m
Fair mask (Refitted m f) = Falls mask m × (3 ≤ ones m)

either : (mask : List ℕ) (b : Bool) (x y : Round) → Fair mask x → Fair mask y → Fair mask (cond b x y)
either mask true x y p q = p
either mask false x y p q = q

enough : (mask m : List ℕ) (f : Result Cd Refusal) → Falls mask m → Fair mask (cond (ltb (ones m) 3) (Last m) (Refitted m f))
enough mask m f p = go (ltb (ones m) 3) refl
  where
    go : (b : Bool) → ltb (ones m) 3 ≡ b → Fair mask (cond b (Last m) (Refitted m f))
    go true e = p
    go false e = (p, ltb-false (ones m) 3 e)

round_fair : (r : Rows) (ws : List Float) (mask : List ℕ) (cd : Cd) → Fair mask (round_of r ws mask cd)
unfolding round_of
round_fair r ws mask cd =
    let errors = errors_of r mask (inverse_of cd) in
    let clip = clip_of (squares_to errors ws mask (length mask)) (ones mask) in
    let left = mask_left errors (roots_of ws) mask clip in
    let falls = left_falls errors (roots_of ws) mask clip in
    either mask (ltb (ones mask) 3) (Last mask) _ (λ i. inl refl)
    (either mask (not (any_rejected errors (roots_of ws) mask clip (length mask))) (Last left) _ falls
    (enough mask left (refit_of r ws left) falls))

-- ---- the rounds

-- what every end of a clip keeps
pub record Keeps (mask : List ℕ) (e : Ended) : Type 0 where
  pub falls : Falls mask e.mask
  pub few_done : ones e.mask < 3 → (plate : Cd) × (e.answer ≡ Ok (clipped.Done plate))

after_keeps : (next : List ℕ → Cd → Ended) → ((m : List ℕ) (cd : Cd) → Keeps m (next m cd)) → (mask : List ℕ) (cd : Cd) (round : Round) → Fair mask round → Keeps mask (after next cd round)
after_keeps next k mask cd (Last m) p = record { falls = p; few_done = λ h. (cd, refl) }
after_keeps next k mask cd (Refitted m (Ok better)) p = record { falls = then_falls mask m (next m better).mask p.0 (k m better).falls; few_done = (k m better).few_done }
after_keeps next k mask cd (Refitted m (Err why)) p = record { falls = p.0; few_done = λ h. absurd (not-le_of_lt h p.1) }

pub keeps : (k : ℕ) (r : Rows) (ws : List Float) (mask : List ℕ) (cd : Cd) → Keeps mask (clip_from k r ws mask cd)
unfolding clip_from
keeps zero r ws mask cd = record { falls = λ i. inl refl; few_done = λ h. (cd, refl) }
keeps (suc k) r ws mask cd = after_keeps (clip_from k r ws) (keeps k r ws) mask cd (round_of r ws mask cd) (round_fair r ws mask cd)

-- ---- the call

module _ (r : Rows) (mask : List ℕ) (cd : Cd) (ws : List Float) where
  -- a refusal by the tests, which is number 1, 2 or 3, keeps the mask
  pub refused_keeps : (why : Refusal) → clip_tests r mask cd ws ≡ Err why → sigma_clip r mask cd ws ≡ ended (Err why) mask
  refused_keeps why e = rw e

  ends : (a : Result Unit Refusal) → Falls mask (ended_after a mask (clip_from 10 r ws mask cd)).mask
  ends (Ok tt) = (keeps 10 r ws mask cd).falls
  ends (Err why) = λ i. inl refl

  -- the mask only falls: each byte is as it was, or 0
  pub mask_falls : Falls mask (sigma_clip r mask cd ws).mask
  mask_falls = ends (clip_tests r mask cd ws)

  -- a row that is off stays off
  pub off_stays_off : (i : ℕ) → is_on mask i ≡ false → is_on (sigma_clip r mask cd ws).mask i ≡ false
  off_stays_off i h = ⊎_elim (λ e. ap (λ (b : ℕ). eqb b 1) e ∙ h) (λ z. ap (λ (b : ℕ). eqb b 1) z) (mask_falls i)

  -- a clip that passed its tests and ends with fewer than three rows on is done
  pub few_is_done : clip_tests r mask cd ws ≡ Ok tt → ones (sigma_clip r mask cd ws).mask < 3 → (plate : Cd) × ((sigma_clip r mask cd ws).answer ≡ Ok (clipped.Done plate))
  few_is_done e = rw e (keeps 10 r ws mask cd).few_done
