-- A set was visited at a smaller seed exactly where a member below the seed has the three others among its neighbours; and in one seed's turn no set comes twice. Of any neighbours that are bytes, each once, none its own. Assumes nothing.
use Prim.Native.Nat.{ℕ, zero, suc, ◌+◌, ◌≤◌, ◌<◌}
use mathlib.Core.Path.{◌≡◌, refl, sym, ◌∙◌, ap}
use mathlib.Core.Bool.{Bool, true, false, ◌||◌, true≢false}
use mathlib.Core.Logic.{◌⊎◌, inl, inr, ⊎_elim}
use mathlib.Core.List.{List, [], ◌∷◌, ◌++◌}
use native.Mathlib.Omega.{arith}
use borrow.Author.Tests.{eqb-true, eqb-false, lt-ltb, ltb-true}
use lib.Dec.{eqb, ltb}
use Rattle.order.proofs.InTurn.{Each, InTurn, Apart, each_append}
use Rattle.quad_visit.specs.Visit.{set_of, thirds, seconds, firsts, memb}
use Rattle.quad_visit.specs.Met.{met_at, met}
use Rattle.quad_visit.proofs.Members.{iff, or_left, or_right, or_cases, and_cases, memb_app, here, there, memb_cases, each_member, each_of, one_of, second_of, third_of, fourth_of}
use Rattle.quad_visit.proofs.Sets.{Bytes, turn_12, turn_23, turn_34, same_places}

-- ---- a seed's sets are those of three of its neighbours

in_thirds : (t x y z : ℕ) (l : List ℕ) → memb z l ≡ true → memb (set_of t x y z) (thirds t x y l) ≡ true
in_thirds t x y z [] e = absurd (true≢false (sym e))
in_thirds t x y z (h ∷ l) e =
    let more = in_thirds t x y z l in
    ⊎_elim (λ f. here (set_of t x y h) (set_of t x y z) (thirds t x y l) (ap (set_of t x y) f)) (λ f. there (set_of t x y h) (set_of t x y z) (thirds t x y l) (more f)) (memb_cases h z l e)

in_seconds : (t x y z : ℕ) (l : List ℕ) → (y ≡ z → ⊥) → memb y l ≡ true → memb z l ≡ true → memb (set_of t x y z) (seconds t x l) ≡ true
in_seconds t x y z [] n e f = absurd (true≢false (sym e))
in_seconds t x y z (h ∷ l) n e f =
    go (in_seconds t x y z l n) (memb_cases h y l e) (memb_cases h z l f)
  where
    left : memb (set_of t x y z) (thirds t x h l) ≡ true → memb (set_of t x y z) (seconds t x (h ∷ l)) ≡ true
    left g = memb_app (set_of t x y z) (thirds t x h l) (seconds t x l) ∙ or_left _ _ g

    right : memb (set_of t x y z) (seconds t x l) ≡ true → memb (set_of t x y z) (seconds t x (h ∷ l)) ≡ true
    right g = memb_app (set_of t x y z) (thirds t x h l) (seconds t x l) ∙ or_right (memb (set_of t x y z) (thirds t x h l)) _ g

    go : (memb y l ≡ true → memb z l ≡ true → memb (set_of t x y z) (seconds t x l) ≡ true) → (h ≡ y) ⊎ (memb y l ≡ true) → (h ≡ z) ⊎ (memb z l ≡ true) → memb (set_of t x y z) (seconds t x (h ∷ l)) ≡ true
    go ih (inl a) (inl b) = absurd (n (sym a ∙ b))
    go ih (inl a) (inr b) = left (rw a (in_thirds t x y z l b))
    go ih (inr a) (inl b) = left (rw (turn_34 t x y z, b) (in_thirds t x z y l a))
    go ih (inr a) (inr b) = right (ih a b)

in_firsts : (t x y z : ℕ) (l : List ℕ) → (x ≡ y → ⊥) → (x ≡ z → ⊥) → (y ≡ z → ⊥) → memb x l ≡ true → memb y l ≡ true → memb z l ≡ true → memb (set_of t x y z) (firsts t l) ≡ true
in_firsts t x y z [] n₁ n₂ n₃ e f g = absurd (true≢false (sym e))
in_firsts t x y z (h ∷ l) n₁ n₂ n₃ e f g =
    go (in_firsts t x y z l n₁ n₂ n₃) (memb_cases h x l e) (memb_cases h y l f) (memb_cases h z l g)
  where
    left : memb (set_of t x y z) (seconds t h l) ≡ true → memb (set_of t x y z) (firsts t (h ∷ l)) ≡ true
    left k = memb_app (set_of t x y z) (seconds t h l) (firsts t l) ∙ or_left _ _ k

    right : memb (set_of t x y z) (firsts t l) ≡ true → memb (set_of t x y z) (firsts t (h ∷ l)) ≡ true
    right k = memb_app (set_of t x y z) (seconds t h l) (firsts t l) ∙ or_right (memb (set_of t x y z) (seconds t h l)) _ k

    go : (memb x l ≡ true → memb y l ≡ true → memb z l ≡ true → memb (set_of t x y z) (firsts t l) ≡ true)
        → (h ≡ x) ⊎ (memb x l ≡ true) → (h ≡ y) ⊎ (memb y l ≡ true) → (h ≡ z) ⊎ (memb z l ≡ true) → memb (set_of t x y z) (firsts t (h ∷ l)) ≡ true
    go ih (inl a) (inl b) c = absurd (n₁ (sym a ∙ b))
    go ih (inl a) (inr b) (inl c) = absurd (n₂ (sym a ∙ c))
    go ih (inl a) (inr b) (inr c) = left (rw a (in_seconds t x y z l n₃ b c))
    go ih (inr a) (inl b) (inl c) = absurd (n₃ (sym b ∙ c))
    go ih (inr a) (inl b) (inr c) = left (rw (turn_23 t x y z, b) (in_seconds t y x z l n₂ a c))
    go ih (inr a) (inr b) (inl c) = left (rw (turn_34 t x y z, turn_23 t x z y, c) (in_seconds t z x y l n₁ a b))
    go ih (inr a) (inr b) (inr c) = right (ih a b c)

-- ---- and the other way: each set of a seed is of three of its neighbours

record OfThird (t x y : ℕ) (l : List ℕ) (s : ℕ) : Type 0 where
  z : ℕ
  z_in : memb z l ≡ true
  is : s ≡ set_of t x y z

record OfSecond (t x : ℕ) (l : List ℕ) (s : ℕ) : Type 0 where
  y : ℕ
  z : ℕ
  y_in : memb y l ≡ true
  z_in : memb z l ≡ true
  is : s ≡ set_of t x y z

record OfFirst (t : ℕ) (l : List ℕ) (s : ℕ) : Type 0 where
  x : ℕ
  y : ℕ
  z : ℕ
  x_in : memb x l ≡ true
  y_in : memb y l ≡ true
  z_in : memb z l ≡ true
  is : s ≡ set_of t x y z

of_third : (t x y : ℕ) (l : List ℕ) (s : ℕ) → memb s (thirds t x y l) ≡ true → OfThird t x y l s
of_third t x y [] s e = absurd (true≢false (sym e))
of_third t x y (h ∷ l) s e =
    let more = of_third t x y l s in
    ⊎_elim (λ f. record { z = h; z_in = here h h l refl; is = sym f })
    (λ f. let o = more f in record { z = o.z; z_in = there h o.z l o.z_in; is = o.is })
    (memb_cases (set_of t x y h) s (thirds t x y l) e)

of_second : (t x : ℕ) (l : List ℕ) (s : ℕ) → memb s (seconds t x l) ≡ true → OfSecond t x l s
of_second t x [] s e = absurd (true≢false (sym e))
of_second t x (h ∷ l) s e =
    let more = of_second t x l s in
    ⊎_elim (λ f. let o = of_third t x h l s f in record { y = h; z = o.z; y_in = here h h l refl; z_in = there h o.z l o.z_in; is = o.is })
    (λ f. let o = more f in record { y = o.y; z = o.z; y_in = there h o.y l o.y_in; z_in = there h o.z l o.z_in; is = o.is })
    (or_cases (memb s (thirds t x h l)) (memb s (seconds t x l)) (sym (memb_app s (thirds t x h l) (seconds t x l)) ∙ e))

of_first : (t : ℕ) (l : List ℕ) (s : ℕ) → memb s (firsts t l) ≡ true → OfFirst t l s
of_first t [] s e = absurd (true≢false (sym e))
of_first t (h ∷ l) s e =
    let more = of_first t l s in
    ⊎_elim
    (λ f. let o = of_second t h l s f in record { x = h; y = o.y; z = o.z; x_in = here h h l refl; y_in = there h o.y l o.y_in; z_in = there h o.z l o.z_in; is = o.is })
    (λ f. let o = more f in record { x = o.x; y = o.y; z = o.z; x_in = there h o.x l o.x_in; y_in = there h o.y l o.y_in; z_in = there h o.z l o.z_in; is = o.is })
    (or_cases (memb s (seconds t h l)) (memb s (firsts t l)) (sym (memb_app s (seconds t h l) (firsts t l)) ∙ e))

-- ---- in one seed's turn no set comes twice

once_app : (a b : List ℕ) → InTurn Apart a → InTurn Apart b → ((s : ℕ) → memb s a ≡ true → memb s b ≡ true → ⊥) → InTurn Apart (a ++ b)
once_app [] b h k n = k
once_app (x ∷ a) b h k n = (
  each_append (Apart x) a b h.0 (each_of (Apart x) b (λ s m e. n s (here x s a e) m)),
  once_app a b h.1 k (λ s e f. n s (there x s a e) f),
)

-- a place is a byte
abbrev pub Byte : ℕ → Type 0
Byte u = u < 256

module _ (t : ℕ) (t-low : t < 256) where
  once_thirds : (x y : ℕ) (l : List ℕ) → x < 256 → y < 256 → Each Byte l → InTurn Apart l → Each (Apart t) l → Each (Apart x) l → Each (Apart y) l → InTurn Apart (thirds t x y l)
  once_thirds x y [] x-low y-low low o nt nx ny = tt
  once_thirds x y (h ∷ l) x-low y-low low o nt nx ny = (
    each_of (Apart (set_of t x y h)) (thirds t x y l)
        (λ s m e. let d = of_third t x y l s m in
        one_of {X = ⊥} h t x y d.z
        (sym (same_places h t x y h t x y d.z
        (record { a = t-low; b = x-low; c = y-low; d = low.0 })
        (record { a = t-low; b = x-low; c = y-low; d = each_member Byte l low.1 d.z d.z_in })
        (e ∙ d.is)) ∙ fourth_of t x y h)
        nt.0 nx.0 ny.0 (λ e. each_member (Apart h) l o.0 d.z d.z_in (sym e))),
    once_thirds x y l x-low y-low low.1 o.1 nt.1 nx.1 ny.1,
  )

  once_seconds : (x : ℕ) (l : List ℕ) → x < 256 → Each Byte l → InTurn Apart l → Each (Apart t) l → Each (Apart x) l → InTurn Apart (seconds t x l)
  once_seconds x [] x-low low o nt nx = tt
  once_seconds x (h ∷ l) x-low low o nt nx =
      once_app (thirds t x h l) (seconds t x l)
      (once_thirds x h l x-low low.0 low.1 o.1 nt.1 nx.1 o.0)
      (once_seconds x l x-low low.1 o.1 nt.1 nx.1)
      (λ s e f. let a = of_third t x h l s e in let b = of_second t x l s f in
      one_of {X = ⊥} h t x b.y b.z
      (sym (same_places h t x h a.z t x b.y b.z
      (record { a = t-low; b = x-low; c = low.0; d = each_member Byte l low.1 a.z a.z_in })
      (record { a = t-low; b = x-low; c = each_member Byte l low.1 b.y b.y_in; d = each_member Byte l low.1 b.z b.z_in })
      (sym a.is ∙ b.is)) ∙ third_of t x h a.z)
      nt.0 nx.0
      (λ e. each_member (Apart h) l o.0 b.y b.y_in (sym e))
      (λ e. each_member (Apart h) l o.0 b.z b.z_in (sym e)))

  pub once_firsts : (l : List ℕ) → Each Byte l → InTurn Apart l → Each (Apart t) l → InTurn Apart (firsts t l)
  once_firsts [] low o nt = tt
  once_firsts (h ∷ l) low o nt =
      once_app (seconds t h l) (firsts t l)
      (once_seconds h l low.0 low.1 o.1 nt.1 o.0)
      (once_firsts l low.1 o.1 nt.1)
      (λ s e f. let a = of_second t h l s e in let b = of_first t l s f in
      one_of {X = ⊥} h t b.x b.y b.z
      (sym (same_places h t h a.y a.z t b.x b.y b.z
      (record { a = t-low; b = low.0; c = each_member Byte l low.1 a.y a.y_in; d = each_member Byte l low.1 a.z a.z_in })
      (record { a = t-low; b = each_member Byte l low.1 b.x b.x_in; c = each_member Byte l low.1 b.y b.y_in; d = each_member Byte l low.1 b.z b.z_in })
      (sym a.is ∙ b.is)) ∙ second_of t h a.y a.z)
      nt.0
      (λ e. each_member (Apart h) l o.0 b.x b.x_in (sym e))
      (λ e. each_member (Apart h) l o.0 b.y b.y_in (sym e))
      (λ e. each_member (Apart h) l o.0 b.z b.z_in (sym e)))

-- ---- the visits of the seeds from `from` on, by any neighbours

abbrev pub from_near : (ℕ → List ℕ) → ℕ → ℕ → List ℕ
from_near near from zero = []
from_near near from (suc left) = firsts from (near from) ++ from_near near (suc from) left

record From (near : ℕ → List ℕ) (from left s : ℕ) : Type 0 where
  t : ℕ
  above : from ≤ t
  below : t < from + left
  is_in : memb s (firsts t (near t)) ≡ true

of_from : (near : ℕ → List ℕ) (from left s : ℕ) → memb s (from_near near from left) ≡ true → From near from left s
of_from near from zero s e = absurd (true≢false (sym e))
of_from near from (suc left) s e =
    let more = of_from near (suc from) left s in
    ⊎_elim (λ f. record { t = from; above = omega arith; below = omega arith; is_in = f })
    (λ f. let o = more f in record { t = o.t; above = omega (arith, o.above); below = omega (arith, o.below); is_in = o.is_in })
    (or_cases (memb s (firsts from (near from))) (memb s (from_near near (suc from) left)) (sym (memb_app s (firsts from (near from)) (from_near near (suc from) left)) ∙ e))

in_from : (near : ℕ → List ℕ) (from left t s : ℕ) → from ≤ t → t < from + left → memb s (firsts t (near t)) ≡ true → memb s (from_near near from left) ≡ true
in_from near from zero t s a b e = absurd (omega arith)
in_from near from (suc left) t s a b e =
    memb_app s (firsts from (near from)) (from_near near (suc from) left) ∙ go (in_from near (suc from) left t s) (eqb from t) refl
  where
    go : (suc from ≤ t → t < suc from + left → memb s (firsts t (near t)) ≡ true → memb s (from_near near (suc from) left) ≡ true)
        → (x : Bool) → eqb from t ≡ x → (memb s (firsts from (near from)) || memb s (from_near near (suc from) left)) ≡ true
    go more true f = or_left (memb s (firsts from (near from))) _ (rw (eqb-true from t f) e)
    go more false f = let n = eqb-false from t f in or_right (memb s (firsts from (near from))) _ (more (omega arith) (omega arith) e)

-- what is asked of neighbours: bytes, each once, and none its own
pub record Near (near : ℕ → List ℕ) : Type 0 where
  pub low : (p : ℕ) → Each Byte (near p)
  pub other : (p : ℕ) → Each (Apart p) (near p)
  pub once : (p : ℕ) → InTurn Apart (near p)

module _ (near : ℕ → List ℕ) (g : Near near) where
  met_given : (seed p q r : ℕ) → met_at near seed p q r ≡ true → (p < seed) × (memb seed (near p) ≡ true) × (memb q (near p) ≡ true) × (memb r (near p) ≡ true)
  unfolding met_at
  met_given seed p q r e =
      let a = and_cases (ltb p seed) _ e in
      let b = and_cases (memb seed (near p)) _ a.1 in
      let c = and_cases (memb q (near p)) _ b.1 in
      (ltb-true p seed a.0, b.0, c.0, c.1)

  met_made : (seed p q r : ℕ) → p < seed → memb seed (near p) ≡ true → memb q (near p) ≡ true → memb r (near p) ≡ true → met_at near seed p q r ≡ true
  unfolding met_at
  met_made seed p q r h a b c = rw (lt-ltb p seed h, a, b, c)

  -- a member p below the seed that has the three others among its neighbours has met the set
  earlier : (seed p q r : ℕ) → (seed ≡ q → ⊥) → (seed ≡ r → ⊥) → (q ≡ r → ⊥) → met_at near seed p q r ≡ true → memb (set_of p seed q r) (from_near near 0 seed) ≡ true
  earlier seed p q r n₁ n₂ n₃ e =
      let m = met_given seed p q r e in
      in_from near 0 seed p (set_of p seed q r) (omega arith) (omega (arith, m.0)) (in_firsts p seed q r (near p) n₁ n₂ n₃ m.1 m.2 m.3)

  module _ (seed p q r : ℕ) (s-low : seed < 256) (p-in : memb p (near seed) ≡ true) (q-in : memb q (near seed) ≡ true) (r-in : memb r (near seed) ≡ true)
      (n₁ : p ≡ q → ⊥) (n₂ : p ≡ r → ⊥) (n₃ : q ≡ r → ⊥) where
    not_seed : (u : ℕ) → memb u (near seed) ≡ true → seed ≡ u → ⊥
    not_seed u m = each_member (Apart seed) (near seed) (g.other seed) u m

    met_visited : met near seed p q r ≡ true → memb (set_of seed p q r) (from_near near 0 seed) ≡ true
    unfolding met
    met_visited e =
        ⊎_elim (λ f. rw (turn_12 seed p q r) (earlier seed p q r (not_seed q q-in) (not_seed r r-in) n₃ f))
        (λ f. ⊎_elim
        (λ h. rw (turn_23 seed p q r, turn_12 seed q p r) (earlier seed q p r (not_seed p p-in) (not_seed r r-in) n₂ h))
        (λ h. rw (turn_34 seed p q r, turn_23 seed p r q, turn_12 seed r p q) (earlier seed r p q (not_seed p p-in) (not_seed q q-in) n₁ h))
        (or_cases (met_at near seed q p r) (met_at near seed r p q) f))
        (or_cases (met_at near seed p q r) _ e)

    visited_met : memb (set_of seed p q r) (from_near near 0 seed) ≡ true → met near seed p q r ≡ true
    unfolding met
    visited_met e =
        let o = of_from near 0 seed (set_of seed p q r) e in
        let f = of_first o.t (near o.t) (set_of seed p q r) o.is_in in
        let t = o.t in
        let low : (v u : ℕ) → memb u (near v) ≡ true → u < 256 = λ v. each_member Byte (near v) (g.low v) in
        let b : Bytes seed p q r = record { a = s-low; b = low seed p p-in; c = low seed q q-in; d = low seed r r-in } in
        let b' : Bytes t f.x f.y f.z = record { a = omega (arith, o.below); b = low t f.x f.x_in; c = low t f.y f.y_in; d = low t f.z f.z_in } in
        let inside : (u : ℕ) → memb u (seed ∷ p ∷ q ∷ r ∷ []) ≡ true → (t ≡ u → ⊥) → memb u (near t) ≡ true = λ u m n.
        one_of u t f.x f.y f.z (sym (same_places u seed p q r t f.x f.y f.z b b' f.is) ∙ m)
        (λ k. absurd (n k)) (λ k. rw k at f.x_in) (λ k. rw k at f.y_in) (λ k. rw k at f.z_in) in
        let is-seed : memb seed (near t) ≡ true = inside seed (here seed seed (p ∷ q ∷ r ∷ []) refl) (λ k. omega (arith, o.below)) in
        let lower : t < seed = omega (arith, o.below) in
        one_of t seed p q r (same_places t seed p q r t f.x f.y f.z b b' f.is ∙ here t t (f.x ∷ f.y ∷ f.z ∷ []) refl)
        (λ k. absurd (omega arith))
        (λ k. or_left (met_at near seed p q r) _ (rw k (met_made seed t q r lower is-seed (inside q (third_of seed p q r) (λ j. n₁ (k ∙ j))) (inside r (fourth_of seed p q r) (λ j. n₂ (k ∙ j))))))
        (λ k. or_right (met_at near seed p q r) _ (or_left (met_at near seed q p r) _ (rw k (met_made seed t p r lower is-seed (inside p (second_of seed p q r) (λ j. n₁ (sym j ∙ sym k))) (inside r (fourth_of seed p q r) (λ j. n₃ (k ∙ j)))))))
        (λ k. or_right (met_at near seed p q r) _ (or_right (met_at near seed q p r) (met_at near seed r p q) (rw k (met_made seed t p q lower is-seed (inside p (second_of seed p q r) (λ j. n₂ (sym j ∙ sym k))) (inside q (third_of seed p q r) (λ j. n₃ (sym j ∙ sym k)))))))

    -- the set of a seed and three of its neighbours was visited at a smaller seed exactly where it is met
    pub met_is : memb (set_of seed p q r) (from_near near 0 seed) ≡ met near seed p q r
    met_is = iff _ _ visited_met met_visited
