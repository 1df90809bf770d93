-- Laws of texts that are put into a buffer: one after the other, and by a loop. Assumes nothing.
use mathlib.Core.Path.{◌≡◌, refl, sym, ap, ◌∙◌, subst}
use mathlib.Core.List.{List, [], ◌∷◌, ◌++◌}
use Prim.Native.Nat.{ℕ, suc, ◌+◌, ◌≤◌, ◌<◌}
use native.Mathlib.Nat.{add-zero}
use native.Mathlib.Numerals.{add-one}
use native.Mathlib.Omega.{arith}
use lib.ListN.{length, set, get_or, drop, length-append, drop_of_length-le}
use lib.Seq.{sets, sets-eq, drop-cons, length-sets}
use Rattle.put.specs.Put.{Put, Room}

-- ---- one text after another

-- two texts put one after the other are their concatenation put at once
pub sets_append : (us vs l : List ℕ) (i : ℕ) → sets l i (us ++ vs) ≡ sets (sets l i us) (i + length us) vs
sets_append [] vs l i = ap (λ (k : ℕ). sets l k vs) (sym (add-zero i))
sets_append (a ∷ us) vs l i =
    let e : suc i + length us ≡ i + suc (length us) = omega arith in
    sets_append us vs (set l i a) (suc i) ∙ ap (λ (k : ℕ). sets (sets (set l i a) (suc i) us) k vs) e

-- no text
pub put_none : {l : List ℕ} {i : ℕ} → Put l i [] i l
put_none {l} {i} = record { next_is = sym (add-zero i); new_is = refl }

-- one text, and then another
pub then : {us vs l₀ l₁ l₂ : List ℕ} {i p q : ℕ} → Put l₀ i us p l₁ → Put l₁ p vs q l₂ → Put l₀ i (us ++ vs) q l₂
then {us} {vs} {l₀} {l₁} {l₂} {i} {p} {q} a b = record {
  next_is = omega (arith, a.next_is, b.next_is, length-append us vs);
  new_is =
      b.new_is ∙ ap (λ (l : List ℕ). sets l p vs) a.new_is
      ∙ ap (λ (k : ℕ). sets (sets l₀ i us) k vs) a.next_is ∙ sym (sets_append us vs l₀ i);
}

-- room for two texts is room for the first
pub room_first : (vs : List ℕ) {us l : List ℕ} {i : ℕ} → Room l i (us ++ vs) → Room l i us
room_first vs {us} {l} {i} r = record { room = omega (arith, r.room, length-append us vs) }

-- room for two texts is room for the second once the first is put
pub room_next : {us vs l₀ l₁ : List ℕ} {i p : ℕ} → Room l₀ i (us ++ vs) → Put l₀ i us p l₁ → Room l₁ p vs
room_next {us} {vs} {l₀} {l₁} {i} {p} r a =
    record { room = omega (arith, r.room, length-append us vs, a.next_is, ap length a.new_is ∙ length-sets l₀ i us) }

-- a text in other words
pub same_text : {us vs l₀ l₁ : List ℕ} {i p : ℕ} → us ≡ vs → Put l₀ i us p l₁ → Put l₀ i vs p l₁
same_text {us} {vs} {l₀} {l₁} {i} {p} e a = subst (λ (t : List ℕ). Put l₀ i t p l₁) e a

-- room for a text in other words
pub same_room : {us vs l : List ℕ} {i : ℕ} → vs ≡ us → Room l i us → Room l i vs
same_room {us} {vs} {l} {i} e r = subst (λ (t : List ℕ). Room l i t) (sym e) r

-- a text changes no length
pub put_length : {us l₀ l₁ : List ℕ} {i p : ℕ} → Put l₀ i us p l₁ → length l₁ ≡ length l₀
put_length {us} {l₀} {l₁} {i} {p} a = ap length a.new_is ∙ length-sets l₀ i us

-- a text put at the front stands before what is left of the buffer
pub put_front : {us l₀ l₁ : List ℕ} {p : ℕ} → Room l₀ 0 us → Put l₀ 0 us p l₁ → l₁ ≡ us ++ drop (length us) l₀
put_front {us} {l₀} {l₁} {p} r a =
    let z : 0 + length us ≡ length us = omega arith in
    a.new_is ∙ sets-eq us l₀ 0 r.room ∙ ap (λ (k : ℕ). us ++ drop k l₀) z

-- ---- texts put by a loop

-- what is left to put, after what is there, comes to the whole
pub record Going (old : List ℕ) (at : ℕ) (all : List ℕ) (new : List ℕ) (m : ℕ) (rest : List ℕ) : Type 0 where
  pub lists : sets new m rest ≡ sets old at all
  pub places : m + length rest ≡ at + length all
  pub long : length new ≡ length old

-- at the start all is left
pub going_start : {old all : List ℕ} {at : ℕ} → Going old at all old at all
going_start = record { lists = refl; places = refl; long = refl }

-- the next text is put
pub going_step : {old all l l₁ us vs : List ℕ} {at m p : ℕ} → Going old at all l m (us ++ vs) → Put l m us p l₁ → Going old at all l₁ p vs
going_step {old} {all} {l} {l₁} {us} {vs} {at} {m} {p} g a = record {
  lists =
      ap (λ (x : List ℕ). sets x p vs) a.new_is ∙ ap (λ (k : ℕ). sets (sets l m us) k vs) a.next_is
      ∙ sym (sets_append us vs l m) ∙ g.lists;
  places = omega (arith, g.places, length-append us vs, a.next_is);
  long = put_length a ∙ g.long;
}

-- nothing is left
pub going_end : {old all l : List ℕ} {at m : ℕ} → Going old at all l m [] → Put old at all m l
going_end {old} {all} {l} {at} {m} g = record { next_is = sym (add-zero m) ∙ g.places; new_is = g.lists }

-- room for the whole is room for what is left
pub going_room : {old all l rest : List ℕ} {at m : ℕ} → Room old at all → Going old at all l m rest → Room l m rest
going_room {old} {all} {l} {rest} {at} {m} r g = record { room = omega (arith, r.room, g.places, g.long) }

-- what is left in other words
pub same_rest : {old all l us vs : List ℕ} {at m : ℕ} → us ≡ vs → Going old at all l m us → Going old at all l m vs
same_rest {old} {all} {l} {us} {vs} {at} {m} e g = subst (λ (t : List ℕ). Going old at all l m t) e g

-- ---- one byte more

-- the byte at i is put, and what is left of t follows it
pub copy_step : (l t : List ℕ) (at i : ℕ) → i < length t
    → sets (set l (at + i) (get_or t i 0)) (at + (i + 1)) (drop (i + 1) t) ≡ sets l (at + i) (drop i t)
copy_step l t at i h =
    let e : at + (i + 1) ≡ suc (at + i) = omega arith in
    rw (drop-cons t i 0 h, e, add-one i)

-- all bytes are put
pub copy_end : (l₀ l t : List ℕ) (at i : ℕ) → i ≤ length t → length t ≤ i → sets l (at + i) (drop i t) ≡ sets l₀ at t → Put l₀ at t (at + i) l
copy_end l₀ l t at i h g e =
    record { next_is = omega arith; new_is = rw (drop_of_length-le t {i = i} g) at e }
