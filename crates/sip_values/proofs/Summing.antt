-- The sums of all rows, one term more. Assumes nothing.
use mathlib.Core.Path.{◌≡◌, refl, sym, ◌∙◌}
use mathlib.Core.Bool.{true, false}
use mathlib.Core.List.{List}
use Prim.Native.Nat.{ℕ, zero, suc, ◌+◌, ◌*◌, ◌<◌, ◌≤◌}
use native.Mathlib.Numerals.{add-one}
use native.Mathlib.Omega.{arith}
use lib.ListN.{length, get_or, take, drop, replicate, get_or-replicate, length-replicate}
use lib.Seq.{ext_get_or, get_or-take, get_or-drop}
use lib.Ieee.{Float, nan}
use Rattle.floats.specs.Power.{power_of}
use Rattle.cd_plate.specs.Plate.{nothing}
use Rattle.cd_plate.specs.Filled.{filled}
use Rattle.cd_plate.proofs.Filling.{filled_length, filled_at}
use Rattle.elimination_rows.specs.Matrix.{Matrix, cells}
use Rattle.sip_terms.specs.declared.Term.{Term}
use Rattle.sip_terms.specs.Terms.{term_at, is_kept, value_to}
use Rattle.sip_terms.proofs.Told.{filled_same}
use Rattle.sip_terms.proofs.Places.{low_powers}
use Rattle.sip_values.specs.Values.{product_at, term_added, value_in}

-- a list is told by its own numbers
told_self : (l : List Float) (f : ℕ → Float) (n : ℕ) → length l ≡ n → ((k : ℕ) → k < n → get_or l k nan ≡ f k) → l ≡ filled f n
told_self l f n e h =
    ext_get_or nan l (filled f n) (e ∙ sym (filled_length f n)) (λ k g. h k (omega (arith, e)) ∙ sym (filled_at f n k nan (omega (arith, e))))

-- a dropped coefficient leaves the sums
pub term_skipped : (c : Float) (t : Term) (up vp : Matrix) (s : List Float) → is_kept c ≡ false → s ≡ filled (term_added c t up vp s) (length s)
term_skipped c t up vp s e = told_self s (term_added c t up vp s) (length s) refl (λ k h. rw e)

-- a kept one adds its products, with the lines of its powers
pub term_added_lem : (c : Float) (t : Term) (up vp s new : List Float) (w i j : ℕ) → is_kept c ≡ true → w ≡ length s → i ≡ w → j ≡ w
    → new ≡ filled (product_at c (take i (drop (t.p * w) up)) (take j (drop (t.q * w) vp)) s) (length s)
    → new ≡ filled (term_added c t (cells up (length s)) (cells vp (length s)) s) (length s)
term_added_lem c t up vp s new w i j k e ei ej h =
    h ∙ filled_same (product_at c (take i (drop (t.p * w) up)) (take j (drop (t.q * w) vp)) s) (term_added c t (cells up (length s)) (cells vp (length s)) s) (length s)
    (λ a g. rw (k, get_or-take i (drop (t.p * w) up) a nan (omega (arith, ei, e)), get_or-drop (t.p * w) up a nan, get_or-take j (drop (t.q * w) vp) a nan (omega (arith, ej, e)), get_or-drop (t.q * w) vp a nan, e))

module _ (cs : List Float) (up vp : Matrix) (w : ℕ) where
  pub values_none : (s : List Float) → s ≡ replicate w nothing → s ≡ filled (value_in cs up vp 0) w
  unfolding value_in
  values_none s e =
      told_self s (value_in cs up vp 0) w (rw e (length-replicate w nothing)) (λ k h. rw e (get_or-replicate w k nothing nan h))

  pub values_more : (s new : List Float) (i : ℕ) (t : Term) → t ≡ term_at i → s ≡ filled (value_in cs up vp i) w → new ≡ filled (term_added (get_or cs i nan) t up vp s) w
      → new ≡ filled (value_in cs up vp (i + 1)) w
  unfolding value_in
  values_more s new i t et es en =
      en ∙ filled_same (term_added (get_or cs i nan) t up vp s) (value_in cs up vp (i + 1)) w
      (λ k h. rw (et, es, filled_at (value_in cs up vp i) w k nan h, add-one i))

-- by tables that hold the powers it is the value of the definition
pub value_held : (cs : List Float) (up vp : Matrix) (x y : Float) (k : ℕ) → ((p : ℕ) → p < 6 → up p k ≡ power_of x p) → ((p : ℕ) → p < 6 → vp p k ≡ power_of y p)
    → (i : ℕ) → i ≤ 18 → value_in cs up vp i k ≡ value_to cs x y i
unfolding value_in value_to
value_held cs up vp x y k eu ev zero h = refl
value_held cs up vp x y k eu ev (suc i) h =
    let g = low_powers i (omega arith) in
    rw (value_held cs up vp x y k eu ev i (omega arith), eu (term_at i).p (omega (arith, g)), ev (term_at i).q (omega (arith, g)))
