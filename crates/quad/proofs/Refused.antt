-- That a set stays used whose visit was refused, as short or as degenerate, shows in no quad: visited again it would be refused again. Assumes nothing.
use Prim.Native.Nat.{ℕ}
use mathlib.Core.Path.{◌≡◌, refl, sym, ◌∙◌}
use mathlib.Core.Bool.{Bool, true, false, cond, ◌||◌, true≢false}
use mathlib.Core.List.{List, [], ◌∷◌, ◌++◌, append-nil}
use borrow.Author.Tests.{eqb-true}
use lib.Dec.{eqb}
use lib.ListN.{length}
use lib.Ieee.{Float}
use Rattle.quad_visit.specs.Visit.{from_seed, memb, add_new, add_all, visited}
use Rattle.quad_visit.proofs.Members.{or_false, memb_app}
use Rattle.quad.specs.declared.Tried.{Tried}
use Rattle.quad.specs.declared.Tried.TheVariants as tried
use Rattle.quad.specs.Quads.{quad_of, places_in, hash_in, all_places, all_hashes, quad_places, quad_hashes}
use Rattle.quad.proofs.Laws.{places_app, hashes_app}

-- whether a visit is not refused
abbrev pub is_kept : Tried → Bool
is_kept (tried.Kept q) = true
is_kept tried.Short = false
is_kept tried.Degenerate = false

no_places : (q : Tried) → is_kept q ≡ false → (places_in q ≡ []) × (hash_in q ≡ [])
no_places (tried.Kept q) e = absurd (true≢false e)
no_places tried.Short e = (refl, refl)
no_places tried.Degenerate e = (refl, refl)

module _ (xs ys : List Float) (least : Float) where
  -- the sets that are used by one who forgets those that are refused
  abbrev pub forgetful : List ℕ → List ℕ → List ℕ
  forgetful l [] = l
  forgetful l (s ∷ ss) = forgetful (cond (is_kept (quad_of xs ys least s)) (add_new l s) l) ss

  -- two stores that write the same quads, and hold the same of the sets that are kept
  record Alike (l m : List ℕ) : Type 0 where
    places : all_places xs ys least l ≡ all_places xs ys least m
    hashes : all_hashes xs ys least l ≡ all_hashes xs ys least m
    holds : (u : ℕ) → is_kept (quad_of xs ys least u) ≡ true → memb u l ≡ memb u m

  both_put : (l m : List ℕ) (s : ℕ) → Alike l m → Alike (l ++ (s ∷ [])) (m ++ (s ∷ []))
  both_put l m s h = record {
    places = rw (places_app xs ys least l (s ∷ []), places_app xs ys least m (s ∷ []), h.places);
    hashes = rw (hashes_app xs ys least l (s ∷ []), hashes_app xs ys least m (s ∷ []), h.hashes);
    holds = λ u k. rw (memb_app u l (s ∷ []), memb_app u m (s ∷ []), h.holds u k);
  }

  one_put : (l m : List ℕ) (s : ℕ) → is_kept (quad_of xs ys least s) ≡ false → Alike l m → Alike l (m ++ (s ∷ []))
  one_put l m s e h =
      let n = no_places (quad_of xs ys least s) e in
      record {
        places = h.places ∙ sym (places_app xs ys least m (s ∷ []) ∙ rw n.0 (append-nil (all_places xs ys least m)));
        hashes = h.hashes ∙ sym (hashes_app xs ys least m (s ∷ []) ∙ rw n.1 (append-nil (all_hashes xs ys least m)));
        holds = λ u k. h.holds u k ∙ sym (memb_app u m (s ∷ []) ∙ go u k (eqb s u) refl);
      }
    where
      go : (u : ℕ) → is_kept (quad_of xs ys least u) ≡ true → (b : Bool) → eqb s u ≡ b → (memb u m || (b || false)) ≡ memb u m
      go u k true f = absurd (true≢false (sym (rw (← eqb-true s u f) at k) ∙ e))
      go u k false f = or_false (memb u m)

  alike_more : (l m : List ℕ) (s : ℕ) → Alike l m → Alike (cond (is_kept (quad_of xs ys least s)) (add_new l s) l) (add_new m s)
  alike_more l m s h = go (is_kept (quad_of xs ys least s)) refl (memb s m) refl
    where
      go : (b : Bool) → is_kept (quad_of xs ys least s) ≡ b → (c : Bool) → memb s m ≡ c → Alike (cond b (add_new l s) l) (cond c m (m ++ (s ∷ [])))
      go true e true f = rw (h.holds s e ∙ f) h
      go true e false f = rw (h.holds s e ∙ f) (both_put l m s h)
      go false e true f = h
      go false e false f = one_put l m s e h

  alike_all : (ss l m : List ℕ) → Alike l m → Alike (forgetful l ss) (add_all m ss)
  alike_all [] l m h = h
  alike_all (s ∷ ss) l m h = alike_all ss (cond (is_kept (quad_of xs ys least s)) (add_new l s) l) (add_new m s) (alike_more l m s h)

  -- the quads of all visits are the same for him
  pub refused_again : (k : ℕ)
      → (all_places xs ys least (forgetful [] (from_seed xs ys k 0 (length xs))) ≡ quad_places xs ys k least)
      × (all_hashes xs ys least (forgetful [] (from_seed xs ys k 0 (length xs))) ≡ quad_hashes xs ys k least)
  unfolding quad_places quad_hashes visited
  refused_again k =
      let h = alike_all (from_seed xs ys k 0 (length xs)) [] [] (record { places = refl; hashes = refl; holds = λ u e. refl }) in
      (h.places, h.hashes)
