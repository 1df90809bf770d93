-- The terms by their places are those of `sip_monomial_terms`. Assumes nothing.
use mathlib.Core.Path.{◌≡◌, refl, ◌∙◌}
use mathlib.Core.List.{◌++◌, append_assoc}
use Prim.Native.Nat.{ℕ, zero, suc, ◌+◌, ◌-◌}
use native.Mathlib.Omega.{arith}
use borrow.Author.Tests.{ne_eqb}
use Rattle.cd_plate.specs.Filled.{filled}
use Rattle.sip_terms.specs.Terms.{term_at, count_to, term_count, degree_terms, degrees_to, monomial_terms}

-- p + 1 terms from place i on, where the term at i is u^p v^q, are the rest of its degree; the next degree follows
degree_filled : (p q i : ℕ) → term_at i ≡ record { p = p; q = q } → (filled term_at (i + (p + 1)) ≡ filled term_at i ++ degree_terms p q) × (term_at (i + (p + 1)) ≡ record { p = q + p + 1; q = 0 })
unfolding filled degree_terms term_at
degree_filled zero q i e =
    let a : i + (0 + 1) ≡ suc i = omega arith in
    let b : q + 0 + 1 ≡ q + 1 = omega arith in
    (rw (a, e), rw (a, e, b))
degree_filled (suc p) q i e =
    let z : suc p - 1 ≡ p = omega arith in
    let n : term_at (suc i) ≡ record { p = p; q = q + 1 } = rw (e, ne_eqb (suc p) 0 (λ o. absurd (omega arith)), z) in
    let h = degree_filled p (q + 1) (suc i) n in
    let a : i + (suc p + 1) ≡ suc i + (p + 1) = omega arith in
    let b : q + suc p + 1 ≡ q + 1 + p + 1 = omega arith in
    (rw a (h.0 ∙ rw e (simp append_assoc)), rw (a, b) h.1)

degrees : (k : ℕ) → (filled term_at (count_to k) ≡ degrees_to k) × (term_at (count_to k) ≡ record { p = k + 2; q = 0 })
unfolding filled degrees_to count_to term_at
degrees zero = (refl, refl)
degrees (suc k) =
    let h = degrees k in
    let g = degree_filled (k + 2) 0 (count_to k) h.1 in
    let a : count_to k + (k + 3) ≡ count_to k + (k + 2 + 1) = omega arith in
    let b : suc k + 2 ≡ 0 + (k + 2) + 1 = omega arith in
    (rw (a, ← h.0) g.0, rw (a, b) g.1)

pub as_listed : (order : ℕ) → filled term_at (term_count order) ≡ monomial_terms order
as_listed order = (degrees (order - 1)).0
