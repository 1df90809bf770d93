-- The terms of a SIP polynomial in the order of `sip_monomial_terms`, and its value at a point. Each operation is rounded once. Definitions only.
use Rattle.std.specs.Prelude.{Bool, true, false, cond, List, [], ◌∷◌, ◌++◌, ℕ, zero, suc, ◌+◌, ◌-◌, eqb, length, get_or, Float}
use Rattle.std.specs.Float.{nan, binary64}
use Rattle.std.specs.Float.Ieee.{of_bits, lt}
use Rattle.floats.specs.Magnitude.{magnitude_of}
use Rattle.floats.specs.Power.{power_of}
use Rattle.floats.specs.Rounded.{◌⊕◌, ◌⊗◌}
use Rattle.cd_plate.specs.Plate.{nothing}
use Rattle.sip_terms.specs.declared.Term.{Term}

-- the first term: u^2
abbrev pub first_term : Term
first_term = record { p = 2; q = 0 }

-- the first where a test holds, else the second
abbrev pub pick_term : Bool → Term → Term → Term
pick_term true a b = a
pick_term false a b = b

-- after u^p v^q comes u^(p-1) v^(q+1), and after v^q comes u^(q+1), the first of the next total degree
abbrev pub next_term : Term → Term
next_term t = pick_term (eqb t.p 0) (record { p = t.q + 1; q = 0 }) (record { p = t.p - 1; q = t.q + 1 })

-- the term at a place
unfoldable pub term_at : ℕ → Term
term_at zero = first_term
term_at (suc i) = next_term (term_at i)

-- how many terms have a total degree from 2 to k + 1
unfoldable pub count_to : ℕ → ℕ
count_to zero = 0
count_to (suc k) = count_to k + (k + 3)

-- how many terms an order has
abbrev pub term_count : ℕ → ℕ
term_count order = count_to (order - 1)

-- the Rust's inner loop: the terms of one total degree from u^p v^q on, p falling to 0
unfoldable pub degree_terms : ℕ → ℕ → List Term
degree_terms zero q = record { p = 0; q = q } ∷ []
degree_terms (suc p) q = record { p = suc p; q = q } ∷ degree_terms p (q + 1)

-- its outer loop: those of total degree 2 to k + 1
unfoldable pub degrees_to : ℕ → List Term
degrees_to zero = []
degrees_to (suc k) = degrees_to k ++ degree_terms (k + 2) 0

-- the terms of an order, as `sip_monomial_terms` lists them
abbrev pub monomial_terms : ℕ → List Term
monomial_terms order = degrees_to (order - 1)

-- u^p v^q for the term at a place
abbrev pub basis_of : Float → Float → ℕ → Float
basis_of u v i = power_of u (term_at i).p ⊗ power_of v (term_at i).q

-- 1e-20, which the magnitude of a kept coefficient exceeds
abbrev pub least_coefficient : Float
least_coefficient = of_bits binary64 0x3bc7_9ca1_0c92_4223

-- a coefficient of magnitude 1e-20 or less, or NaN, is dropped
abbrev pub is_kept : Float → Bool
is_kept c = lt least_coefficient (magnitude_of c)

-- a dropped coefficient is handed out as 0.0
unfoldable pub kept_of : Float → Float
kept_of c = cond (is_kept c) c nothing

-- a sum with c x y more, from left to right; a dropped coefficient is skipped, not added
abbrev pub with_term : Float → Float → Float → Float → Float
with_term s c x y = cond (is_kept c) (s ⊕ c ⊗ x ⊗ y) s

-- the first k terms at a point, summed from 0.0 in their order
unfoldable pub value_to : List Float → Float → Float → ℕ → Float
value_to cs u v zero = nothing
value_to cs u v (suc k) = with_term (value_to cs u v k) (get_or cs k nan) (power_of u (term_at k).p) (power_of v (term_at k).q)

-- the polynomial at a point
abbrev pub value_of : List Float → Float → Float → Float
value_of cs u v = value_to cs u v (length cs)
