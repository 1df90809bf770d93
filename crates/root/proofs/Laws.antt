-- Laws of the root: a value has one root (`unique`), which is `root_of x` (`root_of_is`, `agree`). Assumes nothing.
use mathlib.Core.Path.{◌≡◌, refl, sym, ap, ◌∙◌, subst}
use mathlib.Core.Bool.{true, false}
use Prim.Native.Nat.{ℕ, zero, suc, ◌+◌, ◌*◌, ◌/◌, ◌%◌, ◌^◌, ◌≤◌, ◌<◌}
use native.Mathlib.Nat.{add_comm, zero-lt-suc}
use native.Mathlib.Decide.{ℕ_discrete}
use native.Mathlib.Omega.{arith}
use lib.Dec.{T, lt→ltb}
use lib.Ieee.{Float, nan, inf, fin, binary64, fits, of_bits, to_bits}
use lib.Ieee.Positive.{positive, positive-finite}
use Rattle.floats.specs.Patterns.{in_units, units_at}
use Rattle.floats.proofs.Patterns.{pattern, same_value, sign_positive}
use Rattle.root.specs.Root.{root_squared, Nearer, PositiveRoot, IsRoot, root_of, root_below}
use Rattle.root.specs.Steps.{Scaled53, Rooted}
use Rattle.root.proofs.Brought.{brought, normal}
use Rattle.root.proofs.Halves.{Evened, even, uneven, rooted}
use Rattle.root.proofs.Computed.{root_below_lem}
use Rattle.root.proofs.Cases.{Root, positive_case}

-- ---- one root

-- of two numbers that are both nearer to a root than each other, neither is below the other
no_less : (n a b : ℕ) → Nearer n a b → Nearer n b a → a < b → ⊥
no_less n a b p q l =
    let e : (b + a) * (b + a) ≡ (a + b) * (a + b) = ap (λ (x : ℕ). x * x) (add_comm b a) in
    let g : 4 * n < (b + a) * (b + a) = p.1 l in
    let h : (a + b) * (a + b) < 4 * n = q.0 l in
    omega arith

same : (n a b : ℕ) → Nearer n a b → Nearer n b a → a ≡ b
same n a b p q =
    let f : a < b → ⊥ = no_less n a b p q in
    let g : b < a → ⊥ = no_less n b a q p in
    omega arith

one_positive : (x r s : Float) → PositiveRoot x r → PositiveRoot x s → r ≡ s
one_positive x r s p q =
    let f = positive-finite r p.above in
    let g = positive-finite s q.above in
    same_value r s p.held q.held f g (sign_positive r p.above ∙ sym (sign_positive s q.above))
    (same (root_squared x) (in_units r) (in_units s) (p.nearest s q.held g) (q.nearest r p.held f))

pub unique : (x r s : Float) → IsRoot x r → IsRoot x s → r ≡ s
unique nan r s p q = p ∙ sym q
unique (inf true) r s p q = p ∙ sym q
unique (inf false) r s p q = p ∙ sym q
unique (fin true zero e) r s p q = p ∙ sym q
unique (fin false zero e) r s p q = p ∙ sym q
unique (fin true (suc m) e) r s p q = p ∙ sym q
unique (fin false (suc m) e) r s p q = one_positive (fin false (suc m) e) r s p q

-- ---- `root_of x` is the root

scales : (b : ℕ) → 0 < b → b < 0x7ff0_0000_0000_0000 → (m : ℕ) × (e : ℕ) × Scaled53 b m e
scales b p h = go (ℕ_discrete (b / 2 ^ 52) 0)
  where
    go : Dec (b / 2 ^ 52 ≡ 0) → (m : ℕ) × (e : ℕ) × Scaled53 b m e
    go (yes z) = (_, _, brought b p z)
    go (no n) = (_, _, normal b h n)

evens : {b m e : ℕ} → Scaled53 b m e → (k : ℕ) × Evened m e k
evens {b} {m} {e} s = go (ℕ_discrete (e % 2) 0)
  where
    go : Dec (e % 2 ≡ 0) → (k : ℕ) × Evened m e k
    go (yes z) = (_, even s z)
    go (no n) = (_, uneven s n)

roots : (b : ℕ) → 0 < b → b < 0x7ff0_0000_0000_0000 → (r : ℕ) × (q : ℕ) × (h : ℕ) × Rooted (units_at b * 2 ^ 1074) r q h
roots b p h =
    let s = scales b p h in
    let v = evens s.2 in
    let k = v.0 in
    let w = root_below_lem 54 (k * 2 ^ 54) (fits54 k v.1.high) in
    (_, _, _, rooted s.2 v.1 (root_below 54 (k * 2 ^ 54)) w.0 w.1)
  where
    fits54 : (k : ℕ) → k + 2 ≤ 18014398509481984 → k * 18014398509481984 < 4 ^ 54
    fits54 k h = omega arith

at_positive : (x : Float) → T (fits binary64 x) → T (positive x) → IsRoot x (root_of x)
at_positive x f p =
    let t = pattern x f p in
    let r = roots (to_bits binary64 x) t.some t.under in
    let c : Root x (of_bits binary64 r.0) = positive_case x f p r.0 (r.1, r.2, r.3) in
    subst (λ (v : Float). IsRoot x v) c.0 c.1

pub root_of_is : (x : Float) → T (fits binary64 x) → IsRoot x (root_of x)
unfolding root_of
root_of_is nan f = refl
root_of_is (inf true) f = refl
root_of_is (inf false) f = refl
root_of_is (fin true zero e) f = refl
root_of_is (fin false zero e) f = refl
root_of_is (fin true (suc m) e) f = refl
root_of_is (fin false (suc m) e) f = at_positive (fin false (suc m) e) f (lt→ltb 0 (suc m) (zero-lt-suc m))

-- the two ways to say which value is the root agree
pub agree : (x r : Float) → T (fits binary64 x) → IsRoot x r → r ≡ root_of x
agree x r f h = unique x r (root_of x) h (root_of_is x f)

pub positive_has : (x : Float) → T (fits binary64 x) → T (positive x) → PositiveRoot x (root_of x)
positive_has nan f p = absurd p
positive_has (inf s) f p = absurd p
positive_has (fin true m e) f p = absurd p
positive_has (fin false zero e) f p = absurd p
positive_has (fin false (suc m) e) f p = root_of_is (fin false (suc m) e) f
