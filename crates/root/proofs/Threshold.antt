-- The root keeps the order (`monotone`), so that a root is compared with a limit by comparing its value with one number (`threshold`). Assumes nothing.
use mathlib.Core.Path.{◌≡◌, refl, sym, ap, ◌∙◌, subst}
use mathlib.Core.Logic.{◌⊎◌, inl, inr}
use mathlib.Core.Bool.{Bool, true, false}
use Prim.Native.Nat.{ℕ, suc, ◌+◌, ◌*◌, ◌^◌, ◌≤◌, ◌<◌, zero-le}
use native.Mathlib.Nat.{add_comm, mul-le-mul_right, le_refl, le_of_lt, le_trans, le_of_suc-le-suc, lt_of_not-le, not-le_of_lt}
use native.Mathlib.Omega.{arith}
use lib.IntN.{pos}
use lib.Dec.{T}
use lib.Ieee.{Float, nan, inf, fin, binary64, fits, le, lt, eq}
use lib.Ieee.Fits.{inf-fits}
use lib.Ieee.Positive.{positive-finite}
use Rattle.floats.specs.Patterns.{in_units, next_up}
use Rattle.floats.proofs.Tests.{yes, no, clash, zero_float}
use Rattle.floats.proofs.Ranks.{NotBelow, naught, number, infinity, not_below, rank, rank_zero, rank_inf, rank_some, rank_under, rank_units, units_mono, units_back, le→rank, rank→le, at_least, Next, next}
use Rattle.root.specs.Root.{root_squared, PositiveRoot, root_of}
use Rattle.root.proofs.Cases.{below_root}
use Rattle.root.proofs.Laws.{positive_has}

zero_root : (s : Bool) → root_of (fin s 0 (pos 0)) ≡ fin s 0 (pos 0)
unfolding root_of
zero_root true = refl
zero_root false = refl

inf_root : root_of (inf false) ≡ inf false
unfolding root_of
inf_root = refl

inf_next : next_up (inf false) ≡ inf false
unfolding next_up
inf_next = refl

nan_root : root_of nan ≡ nan
unfolding root_of
nan_root = refl

-- ---- the root of a value that is not below zero is none either

pub root_up : (x : Float) → T (fits binary64 x) → NotBelow x → NotBelow (root_of x)
root_up x f (naught s) = subst NotBelow (sym (zero_root s)) (naught s)
root_up x f (number p) = number (positive_has x f p).above
root_up x f infinity = subst NotBelow (sym inf_root) infinity

zero_fits : (s : Bool) → T (fits binary64 (fin s 0 (pos 0)))
unfolding fits
zero_fits s = tt

pub root_held : (x : Float) → T (fits binary64 x) → NotBelow x → T (fits binary64 (root_of x))
root_held x f (naught s) = subst (λ (v : Float). T (fits binary64 v)) (sym (zero_root s)) (zero_fits s)
root_held x f (number p) = (positive_has x f p).held
root_held x f infinity = subst (λ (v : Float). T (fits binary64 v)) (sym inf_root) (inf-fits binary64 false)

-- ---- the order

-- the roots r of x and s of y are in the order of x and y: were s below r, the middle of the two would be below the root of x and above that of y
in_order : (x y r s : Float) → PositiveRoot x r → PositiveRoot y s → in_units x ≤ in_units y → in_units r ≤ in_units s
in_order x y r s p q h = le_of_suc-le-suc (lt_of_not-le (λ (g : suc (in_units s) ≤ in_units r).
    go (in_units r) (in_units s) (root_squared x) (root_squared y) (mul-le-mul_right (2 ^ 1074) h) ((p.nearest s q.held (positive-finite s q.above)).0 g) ((q.nearest r p.held (positive-finite r p.above)).1 g)))
  where
    go : (a b n m : ℕ) → n ≤ m → (b + a) * (b + a) < 4 * n → 4 * m < (a + b) * (a + b) → ⊥
    go a b n m l u v =
        let e : (b + a) * (b + a) ≡ (a + b) * (a + b) = ap (λ (x : ℕ). x * x) (add_comm b a) in
        omega arith

ranks : (x y : Float) → T (fits binary64 x) → T (fits binary64 y) → NotBelow x → NotBelow y → rank x ≤ rank y → rank (root_of x) ≤ rank (root_of y)
ranks x y f g (naught s) b h = rw (zero_root s, rank_zero s) zero-le
ranks x y f g (number p) (naught s) h = absurd (not-le_of_lt (rank_some x f p) (subst (λ (k : ℕ). rank x ≤ k) (rank_zero s) h))
ranks x y f g (number p) (number q) h =
    let a = positive_has x f p in
    let b = positive_has y g q in
    units_back (rank (root_of x)) (rank (root_of y))
    (rw (← rank_units (root_of x) a.held a.above, ← rank_units (root_of y) b.held b.above)
    (in_order x y (root_of x) (root_of y) a b (rw (rank_units x f p, rank_units y g q) (units_mono (rank x) (rank y) h))))
ranks x y f g (number p) infinity h =
    let a = positive_has x f p in
    rw (inf_root, rank_inf) (le_of_lt (rank_under (root_of x) a.held a.above))
ranks x y f g infinity (naught s) h = absurd (not-le_of_lt (subst (λ (k : ℕ). 0 < k) (sym rank_inf) (native.Mathlib.Nat.zero-lt-suc _)) (subst (λ (k : ℕ). rank (inf false) ≤ k) (rank_zero s) h))
ranks x y f g infinity (number q) h = absurd (not-le_of_lt (rank_under y g q) (subst (λ (k : ℕ). k ≤ rank y) rank_inf h))
ranks x y f g infinity infinity h = le_refl (rank (root_of (inf false)))

-- a larger value has a root that is no smaller
pub monotone : (x y : Float) → T (fits binary64 x) → T (fits binary64 y) → NotBelow x → NotBelow y → T (le x y) → T (le (root_of x) (root_of y))
monotone x y f g a b h = rank→le (root_of x) (root_of y) (root_held x f a) (root_held y g b) (root_up x f a) (root_up y g b) (ranks x y f g a b (le→rank x y f g a b h))

-- ---- the threshold

both : (a b : Bool) → (T a → T b) → (T b → T a) → a ≡ b
both true true f g = refl
both true false f g = absurd (f tt)
both false true f g = absurd (g tt)
both false false f g = refl

nan_le : (y : Float) → le nan y ≡ false
unfolding le lt eq
nan_le y = refl

nan_alike : (l t : Float) → le (root_of nan) l ≡ le nan t
nan_alike l t = ap (λ (v : Float). le v l) nan_root ∙ nan_le l ∙ sym (nan_le t)

-- a value whose root is at most something is not below zero
rooted : (t l : Float) → T (fits binary64 t) → le (root_of t) l ≡ true → NotBelow t
rooted t l f h = go (lt t zero_float) refl
  where
    never : root_of t ≡ nan → ⊥
    never e = clash h (ap (λ (v : Float). le v l) e ∙ nan_le l)

    other : (t ≡ nan) ⊎ NotBelow t → NotBelow t
    other (inl e) = absurd (never (ap root_of e ∙ nan_root))
    other (inr n) = n

    go : (b : Bool) → lt t zero_float ≡ b → NotBelow t
    go true e = absurd (never (sym (below_root t e).0))
    go false e = other (not_below t f e)

module _ (l t : Float) (F : T (fits binary64 l)) (f : T (fits binary64 t)) (low : le (root_of t) l ≡ true) (high : le (root_of (next_up t)) l ≡ false) where
  T-up : NotBelow t
  T-up = rooted t l f low

  L-up : NotBelow l
  L-up = at_least (root_of t) l (root_up t f T-up) F low

  l_rank : rank (root_of t) ≤ rank l
  l_rank = le→rank (root_of t) l (root_held t f T-up) F (root_up t f T-up) L-up (yes low)

  at_number : (e : Float) → T (fits binary64 e) → NotBelow e → le (root_of e) l ≡ le e t
  at_number e g n = both (le (root_of e) l) (le e t) there back
    where
      back : T (le e t) → T (le (root_of e) l)
      back h = rank→le (root_of e) l (root_held e g n) F (root_up e g n) L-up (le_trans (ranks e t g f n T-up (le→rank e t g f n T-up h)) l_rank)

      under : T (le (root_of e) l) → (t ≡ inf false) ⊎ Next t (next_up t) → rank t < rank e → ⊥
      under h (inl i) k = go (subst (λ (v : Float). le (root_of v) l ≡ true) i low) (subst (λ (v : Float). le (root_of (next_up v)) l ≡ false) i high)
        where
          go : le (root_of (inf false)) l ≡ true → le (root_of (next_up (inf false))) l ≡ false → ⊥
          go a b = clash a (subst (λ (v : Float). le (root_of v) l ≡ false) inf_next b)
      under h (inr u) k =
          let r : rank (next_up t) ≤ rank e = subst (λ (x : ℕ). x ≤ rank e) (sym u.one) k in
          let s = le_trans (ranks (next_up t) e u.held g u.up n r) (le→rank (root_of e) l (root_held e g n) F (root_up e g n) L-up h) in
          no high (rank→le (root_of (next_up t)) l (root_held (next_up t) u.held u.up) F (root_up (next_up t) u.held u.up) L-up s)

      there : T (le (root_of e) l) → T (le e t)
      there h = rank→le e t g f n T-up (le_of_suc-le-suc (lt_of_not-le (λ (k : suc (rank t) ≤ rank e). under h (next t f T-up) k)))

  -- where the root of t is at most l and that of the next f64 is not, a root is at most l exactly where its value is at most t: of every f64 that is not below zero, and of NaN
  pub threshold : (e : Float) → T (fits binary64 e) → lt e zero_float ≡ false → le (root_of e) l ≡ le e t
  threshold e g h = go (not_below e g h)
    where
      go : (e ≡ nan) ⊎ NotBelow e → le (root_of e) l ≡ le e t
      go (inl i) = subst (λ (v : Float). le (root_of v) l ≡ le v t) (sym i) (nan_alike l t)
      go (inr n) = at_number e g n
