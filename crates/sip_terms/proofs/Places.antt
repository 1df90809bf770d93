-- Which term stands where, and what is read of the powers. Assumes nothing.
use mathlib.Core.Path.{◌≡◌, refl, ◌∙◌}
use mathlib.Core.Bool.{Bool, true, false}
use Prim.Native.Nat.{ℕ, zero, suc, ◌+◌, ◌-◌, ◌≤◌, ◌<◌}
use native.Mathlib.Numerals.{add-one}
use native.Mathlib.Omega.{arith}
use lib.Dec.{eqb, leb}
use lib.ListN.{get_or}
use lib.Ieee.{Float, nan, binary64, mul}
use borrow.Author.Tests.{eqb-true, eqb-false, leb-true, leb-false}
use Rattle.floats.specs.Power.{power_of}
use Rattle.cd_plate.specs.Filled.{filled}
use Rattle.cd_plate.proofs.Filling.{filled_at}
use Rattle.sip_terms.specs.declared.Term.{Term}
use Rattle.sip_terms.specs.Terms.{next_term, term_at, count_to, basis_of}
use Rattle.sip_terms.specs.Steps.{powers_of, basis_in}
use Rattle.sip_terms.proofs.Told.{filled_same}

count_more : (d : ℕ) → count_to (suc d) ≡ count_to d + (d + 3)
unfolding count_to
count_more d = refl

-- a term's place: those of a lower degree, then those of its own with less of v
pub record Stands (t : Term) (i : ℕ) : Type 0 where
  pub degree : 2 ≤ t.p + t.q
  pub place : count_to (t.p + t.q - 2) + t.q ≡ i

next_stands : (t : Term) (i : ℕ) → Stands t i → Stands (next_term t) (suc i)
next_stands t i s = go (eqb t.p 0) refl
  where
    go : (b : Bool) → eqb t.p 0 ≡ b → Stands (next_term t) (suc i)
    go true e =
        let z : t.p ≡ 0 = eqb-true t.p 0 e in
        let a : t.p + t.q - 2 ≡ t.q - 2 = omega arith in
        let b : t.q + 1 + 0 - 2 ≡ suc (t.q - 2) = omega (arith, s.degree) in
        let h : count_to (t.q - 2) + t.q ≡ i = rw a at s.place in
        rw e (record { degree = omega (arith, s.degree); place = rw (b, count_more (t.q - 2)) (omega (arith, s.degree)) })
    go false e =
        let z = eqb-false t.p 0 e in
        let a : t.p - 1 + (t.q + 1) ≡ t.p + t.q = omega arith in
        rw e (record { degree = omega (arith, s.degree); place = rw a (omega (arith, s.place)) })

pub stands : (i : ℕ) → Stands (term_at i) i
unfolding term_at count_to
stands zero = record { degree = omega arith; place = refl }
stands (suc i) = next_stands (term_at i) i (stands i)

count_grows : (a b : ℕ) → count_to a ≤ count_to (a + b)
unfolding count_to
count_grows a zero = let e : a + 0 ≡ a = omega arith in rw e (omega arith)
count_grows a (suc b) = let e : a + suc b ≡ suc (a + b) = omega arith in rw e (omega (arith, count_grows a b))

-- a term of the first degrees has no greater degree
pub in_degree : (k i : ℕ) → i < count_to k → (term_at i).p + (term_at i).q ≤ k + 1
in_degree k i h = go (leb ((term_at i).p + (term_at i).q) (k + 1)) refl
  where
    go : (b : Bool) → leb ((term_at i).p + (term_at i).q) (k + 1) ≡ b → (term_at i).p + (term_at i).q ≤ k + 1
    go true e = leb-true ((term_at i).p + (term_at i).q) (k + 1) e
    go false e =
        let g : k + 1 < (term_at i).p + (term_at i).q = leb-false ((term_at i).p + (term_at i).q) (k + 1) e in
        let r : k + ((term_at i).p + (term_at i).q - 2 - k) ≡ (term_at i).p + (term_at i).q - 2 = omega arith in
        let m : count_to k ≤ count_to ((term_at i).p + (term_at i).q - 2) = rw r at (count_grows k ((term_at i).p + (term_at i).q - 2 - k)) in
        absurd (omega (arith, (stands i).place))

eighteen : count_to 4 ≡ 18
unfolding count_to
eighteen = refl

-- the powers of the first 18 terms are at most 5
pub low_powers : (i : ℕ) → i < 18 → (term_at i).p + (term_at i).q ≤ 5
low_powers i h = in_degree 4 i (rw eighteen h)

pub low_term : (t : Term) (i : ℕ) → t ≡ term_at i → i < 18 → t.p + t.q ≤ 5
low_term t i e h = rw e (low_powers i h)

-- an order of at most 5 has at most 18 terms
pub few_terms : (order : ℕ) → order ≤ 5 → count_to (order - 1) ≤ 18
few_terms order h =
    let r : order - 1 + (4 - (order - 1)) ≡ 4 = omega arith in
    omega (arith, eighteen, rw r at (count_grows (order - 1) (4 - (order - 1))))

-- the next power and the next term
pub power_more : (x r : Float) (k : ℕ) → r ≡ power_of x k → mul binary64 r x ≡ power_of x (k + 1)
unfolding power_of
power_more x r k e = rw (e, add-one k)

pub term_more : (t r : Term) (i : ℕ) → t ≡ term_at i → r ≡ next_term t → r ≡ term_at (i + 1)
unfolding term_at
term_more t r i e f = f ∙ rw (e, add-one i)

-- the powers are read where they stand
pub power_at : (x : Float) (p : ℕ) → p ≤ 5 → get_or (powers_of x) p nan ≡ power_of x p
power_at x p h = filled_at (power_of x) 6 p nan (omega arith)

-- so that the basis is that of the definition
pub basis_at : (u v : Float) (i : ℕ) → i < 18 → basis_in (powers_of u) (powers_of v) i ≡ basis_of u v i
basis_at u v i h =
    rw (power_at u (term_at i).p (omega (arith, low_powers i h)), power_at v (term_at i).q (omega (arith, low_powers i h)))

pub basis_filled : (u v : Float) (n : ℕ) → n ≤ 18 → filled (basis_in (powers_of u) (powers_of v)) n ≡ filled (basis_of u v) n
basis_filled u v n h = filled_same (basis_in (powers_of u) (powers_of v)) (basis_of u v) n (λ i g. basis_at u v i (omega arith))
