-- The step from a set peels it off the sets from there on: these are a chain of steps, rising, to the last. Assumes nothing.
use mathlib.Core.Path.{◌≡◌, refl, sym, ◌∙◌, subst}
use mathlib.Core.Logic.{inl, inr}
use mathlib.Core.List.{List, [], ◌∷◌, append_assoc}
use Prim.Native.Nat.{ℕ, suc, ◌+◌, ◌≤◌, ◌<◌}
use native.Mathlib.Numerals.{add-one, add-two, add-three, add-four}
use native.Mathlib.Omega.{arith}
use native.Mathlib.Decide.{dec_lt}
use Rattle.quad_combinations.specs.declared.Set.{Set}
use Rattle.quad_combinations.specs.Combinations.{standing, last_of, after_of, four}
use Rattle.quad_combinations.specs.All.{Before}
use Rattle.quad_combinations.proofs.Rising.{Rises, after_d, after_c, after_b, after_a, after_none}
use Rattle.quad_combinations.proofs.Ranges.{sets_from, no_d, no_c, no_b, no_a, first_d, first_c, first_b, first_a}

-- what a step from s finds: the set after it, or that it is the last
data Next (n : ℕ) (s : Set) : Type 0 where
  none : after_of n s ≡ last_of n → sets_from n s ≡ s ∷ [] → Next n s
  some : (t : Set) → after_of n s ≡ standing n t → Rises n t → Before s t → sets_from n s ≡ s ∷ sets_from n t → Next n s

-- one case for each place that can be the last to rise
module _ (n a b c d : ℕ) (r : Rises n (four a b c d)) where
  rise_d : d + 1 < n → Next n (four a b c d)
  unfolding sets_from
  rise_d h =
      some (four a b c (d + 1)) (sym (after_d n (four a b c d) h))
      (record { ab = r.ab; bc = r.bc; cd = omega arith; dn = h })
      (inr (refl, inr (refl, inr (refl, omega arith))))
      (rw (add-one, first_d n a b c d r.dn))

  module _ (hd : n ≤ d + 1) where
    rise_c : c + 2 < n → Next n (four a b c d)
    unfolding sets_from
    rise_c h =
        some (four a b (c + 1) (c + 2)) (sym (after_c n (four a b c d) hd h))
        (record { ab = r.ab; bc = omega arith; cd = omega arith; dn = h })
        (inr (refl, inr (refl, inl (omega arith))))
        (rw (add-one, add-two, first_d n a b c d r.dn, no_d n a b c (suc d) (omega arith), first_c n a b (suc c) (omega arith), append_assoc))

    module _ (hc : n ≤ c + 2) where
      rise_b : b + 3 < n → Next n (four a b c d)
      unfolding sets_from
      rise_b h =
          some (four a (b + 1) (b + 2) (b + 3)) (sym (after_b n (four a b c d) hd hc h))
          (record { ab = omega arith; bc = omega arith; cd = omega arith; dn = h })
          (inr (refl, inl (omega arith)))
          (rw (add-one, add-two, add-three, first_d n a b c d r.dn, no_d n a b c (suc d) (omega arith), no_c n a b (suc c) (omega arith), first_b n a (suc b) (omega arith), append_assoc, append_assoc))

      module _ (hb : n ≤ b + 3) where
        rise_a : a + 4 < n → Next n (four a b c d)
        unfolding sets_from
        rise_a h =
            some (four (a + 1) (a + 2) (a + 3) (a + 4)) (sym (after_a n (four a b c d) hd hc hb h))
            (record { ab = omega arith; bc = omega arith; cd = omega arith; dn = h })
            (inl (omega arith))
            (rw (add-one, add-two, add-three, add-four, first_d n a b c d r.dn, no_d n a b c (suc d) (omega arith), no_c n a b (suc c) (omega arith), no_b n a (suc b) (omega arith), first_a n (suc a) (omega arith), sets_from))

        rise_none : n ≤ a + 4 → Next n (four a b c d)
        unfolding sets_from
        rise_none h =
            none (sym (after_none n (four a b c d) hd hc hb h))
            (rw (first_d n a b c d r.dn, no_d n a b c (suc d) (omega arith), no_c n a b (suc c) (omega arith), no_b n a (suc b) (omega arith), no_a n (suc a) (omega arith)))

  peel_four : Next n (four a b c d)
  peel_four = try_d (dec_lt (d + 1) n)
    where
      try_a : n ≤ d + 1 → n ≤ c + 2 → n ≤ b + 3 → Dec (a + 4 < n) → Next n (four a b c d)
      try_a hd hc hb (yes h) = rise_a hd hc hb h
      try_a hd hc hb (no h) = rise_none hd hc hb (omega arith)

      try_b : n ≤ d + 1 → n ≤ c + 2 → Dec (b + 3 < n) → Next n (four a b c d)
      try_b hd hc (yes h) = rise_b hd hc h
      try_b hd hc (no h) = try_a hd hc (omega arith) (dec_lt (a + 4) n)

      try_c : n ≤ d + 1 → Dec (c + 2 < n) → Next n (four a b c d)
      try_c hd (yes h) = rise_c hd h
      try_c hd (no h) = try_b hd (omega arith) (dec_lt (b + 3) n)

      try_d : Dec (d + 1 < n) → Next n (four a b c d)
      try_d (yes h) = rise_d h
      try_d (no h) = try_c (omega arith) (dec_lt (c + 2) n)

peel : (n : ℕ) (s : Set) → Rises n s → Next n s
peel n s r = peel_four n s.a s.b s.c s.d r

-- sets of four rising places, each the one after the one before it, to the last
pub data Chain (n : ℕ) : Set → List Set → Type 0 where
  end : {s : Set} → Rises n s → after_of n s ≡ last_of n → Chain n s (s ∷ [])
  link : {s t : Set} {l : List Set} → Rises n s → after_of n s ≡ standing n t → Before s t → Chain n t l → Chain n s (s ∷ l)

pub chain : (n : ℕ) (l : List Set) (s : Set) → Rises n s → sets_from n s ≡ l → Chain n s l
chain n [] s r e = go (peel n s r)
  where
    go : Next n s → Chain n s []
    go (none p q) = absurd (let z : ◌≡◌ {A = ℕ} 0 1 = cc in omega arith)
    go (some t p rt o q) = absurd (let z : ◌≡◌ {A = ℕ} 0 1 = cc in omega arith)
chain n (x ∷ l) s r e = go (λ t. chain n l t) (peel n s r)
  where
    go : ((t : Set) → Rises n t → sets_from n t ≡ l → Chain n t l) → Next n s → Chain n s (x ∷ l)
    go rest (none p q) = subst (Chain n s) (sym q ∙ e) (end r p)
    go rest (some t p rt o q) =
        let tail : sets_from n t ≡ l = cc in
        let head : s ≡ x = cc in
        subst (λ (y : Set). Chain n s (y ∷ l)) head (link r p o (rest t rt tail))
