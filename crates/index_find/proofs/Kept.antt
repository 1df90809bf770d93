-- The near places that are kept from the count: one image quad more is found, and where those of an image quad stand. Assumes nothing.
use mathlib.Core.Path.{◌≡◌, refl, sym, ap, ◌∙◌}
use mathlib.Core.Bool.{Bool, true, false, cond}
use mathlib.Core.List.{List, [], ◌∷◌, ◌++◌}
use Prim.Native.Nat.{ℕ, ◌+◌, ◌-◌, ◌*◌, ◌≤◌, ◌<◌}
use native.Mathlib.Nat.{zero-add, sub-zero}
use native.Mathlib.Numerals.{add-one}
use native.Mathlib.Omega.{arith}
use borrow.Author.Tests.{ltb-true, ltb-false}
use lib.Dec.{ltb}
use lib.ListN.{length, get_or, take, drop, length-append, length-drop}
use lib.Seq.{get_or-drop, take-take, take-add, take-length, take-append-le, take-append-add, take_at, drop_at, length-take-le}
use Rattle.hash_near.specs.Over.{over, each}
use Rattle.hash_near.proofs.Over.{over_split, over_more, over_last}
use Rattle.hash_write.specs.Write.{eight}
use Rattle.hash_write.proofs.Writing.{each_more}
use Rattle.index_find.specs.Steps.{held_of, Held}

-- at first nothing is found
pub held_none : (kept : List ℕ) → Held [] kept
held_none kept k h g = let e : k ≡ 0 = omega arith in rw e

pub held_most : (total : ℕ) → held_of total ≤ 48000
held_most total = go (ltb total 48000) (ltb-true total 48000)
  where
    go : (t : Bool) → (t ≡ true → total < 48000) → cond t total 48000 ≤ 48000
    go true f = omega (arith, f refl)
    go false f = omega arith

-- one part more is found, and written after those that are kept
pub held_more : (all part kept new : List ℕ) (from r : ℕ) → 48000 ≤ length kept → Held all kept → from ≡ held_of (length all)
    → (r ≡ from + length part) × (take r new ≡ take from kept ++ part) → Held (all ++ part) new
held_more all part kept new from r long h d e k s t = go (ltb (length all) 48000) (ltb-true (length all) 48000) (ltb-false (length all) 48000) (rw d at e)
  where
    go : (b : Bool) → (b ≡ true → length all < 48000) → (b ≡ false → 48000 ≤ length all)
        → (r ≡ cond b (length all) 48000 + length part) × (take r new ≡ take (cond b (length all) 48000) kept ++ part) → take k new ≡ take k (all ++ part)
    go true f g d =
        let f' = f refl in
        let w : take r new ≡ all ++ part = d.1 ∙ ap (λ (l : List ℕ). l ++ part) (h (length all) (omega arith) (omega arith) ∙ take-length all) in
        sym (take-take k r new (omega (arith, d.0, length-append all part))) ∙ ap (take k) w
    go false f g d =
        let g' = g refl in
        sym (take-take k r new (omega (arith, d.0)))
        ∙ ap (take k) d.1
        ∙ take-append-le k (take 48000 kept) part (omega (arith, length-take-le 48000 kept long))
        ∙ take-take k 48000 kept s
        ∙ h k s (omega arith)
        ∙ sym (take-append-le k all part (omega arith))

-- what is found for one image quad more
pub over_next : (f : ℕ → List ℕ) (i : ℕ) → over f 0 (i + 1) ≡ over f 0 i ++ f i
over_next f i = rw add-one (over_last f 0 i ∙ rw (zero-add i))

-- where the places of one part stand
pub kept_at : (front part rest kept : List ℕ) → Held (front ++ (part ++ rest)) kept → length front + length part ≤ 48000
    → take (length part) (drop (length front) kept) ≡ part
kept_at front part rest kept h s =
    let l = length-append front (part ++ rest) in
    let k = length-append part rest in
    let e : take (length front) kept ≡ front = h (length front) (omega arith) (omega arith) ∙ take_at front (part ++ rest) (length front) refl in
    let d : take (length front + length part) kept ≡ front ++ part =
    h (length front + length part) s (omega arith) ∙ take-append-add front (part ++ rest) (length part) ∙ ap (λ (t : List ℕ). front ++ t) (take_at part rest (length part) refl) in
    sym (drop_at (take (length front) kept) (take (length part) (drop (length front) kept)) (length front) (ap length e))
    ∙ ap (drop (length front)) (sym (take-add (length front) (length part) kept) ∙ d)
    ∙ drop_at front part (length front) refl

-- one place more of those from `from` on
pub next_place : {A : Type 0} (f : ℕ → List A) (kept : List ℕ) (from near t : ℕ) → t < near → from + near ≤ length kept
    → each f (drop t (take near (drop from kept))) ≡ f (get_or kept (from + t) 0) ++ each f (drop (t + 1) (take near (drop from kept)))
next_place f kept from near t h g =
    each_more f (drop from kept) near t h (omega (arith, length-drop from kept))
    ∙ ap (λ (v : ℕ). f v ++ each f (drop (t + 1) (take near (drop from kept)))) (get_or-drop from kept t 0)

-- eight places for each near place
pub eights : (places : List ℕ) (i : ℕ) (catalogue l : List ℕ) → length (each (eight places i catalogue) l) ≡ 8 * length l
eights places i catalogue [] = refl
eights places i catalogue (x ∷ l) = length-append (eight places i catalogue x) (each (eight places i catalogue) l) ∙ omega (arith, eights places i catalogue l)

module _ (f : ℕ → List ℕ) (n i : ℕ) (h : i < n) where
  parts : over f 0 n ≡ over f 0 i ++ (f i ++ over f (i + 1) (n - (i + 1)))
  parts = (rw (sub-zero n, sub-zero i) at (over_split f 0 i n (omega arith) (omega arith))) ∙ ap (λ (l : List ℕ). over f 0 i ++ l) (over_more f i n h)

  -- those of one image quad are among all
  pub among : length (over f 0 i) + length (f i) ≤ length (over f 0 n)
  among = omega (arith, ap length parts, length-append (over f 0 i) (f i ++ over f (i + 1) (n - (i + 1))), length-append (f i) (over f (i + 1) (n - (i + 1))))

  -- and stand after those before them, as long as what is kept stays
  pub stands : (kept₀ kept : List ℕ) (s near : ℕ) → Held (over f 0 n) kept₀ → take 48000 kept ≡ take 48000 kept₀ → s ≡ length (over f 0 i) → near ≡ length (f i)
      → s + near ≤ 48000 → take near (drop s kept) ≡ f i
  stands kept₀ kept s near held same d e room =
      rw (d, e) (kept_at (over f 0 i) (f i) (over f (i + 1) (n - (i + 1))) kept (rw (← parts) still) (omega arith))
    where
      still : Held (over f 0 n) kept
      still k p q = sym (take-take k 48000 kept p) ∙ ap (take k) same ∙ take-take k 48000 kept₀ p ∙ held k p q

-- a part that is looked for again stands past what is kept, which stays
pub again : (part kept new : List ℕ) (r : ℕ) → 48000 ≤ length kept → (r ≡ 48000 + length part) × (take r new ≡ take 48000 kept ++ part)
    → (take (length part) (drop 48000 new) ≡ part) × (take 48000 new ≡ take 48000 kept)
again part kept new r long e = (past, still)
  where
    still : take 48000 new ≡ take 48000 kept
    still =
        sym (take-take 48000 r new (omega (arith, e.0)))
        ∙ ap (take 48000) e.1
        ∙ take-append-le 48000 (take 48000 kept) part (omega (arith, length-take-le 48000 kept long))
        ∙ take-take 48000 48000 kept (omega arith)

    whole : take (48000 + length part) new ≡ take 48000 kept ++ part
    whole = rw (← e.0) e.1

    past : take (length part) (drop 48000 new) ≡ part
    past =
        sym (drop_at (take 48000 new) (take (length part) (drop 48000 new)) 48000 (ap length still ∙ length-take-le 48000 kept long))
        ∙ ap (drop 48000) (sym (take-add 48000 (length part) new) ∙ whole)
        ∙ drop_at (take 48000 kept) part 48000 (length-take-le 48000 kept long)
