-- Worked examples, each by computation.
use Rattle.std.specs.Prelude.{◌≡◌, refl, false, [], ◌∷◌, ℕ, pos, Float}
use Rattle.std.specs.Float.{nan, inf, binary64}
use Rattle.std.specs.Float.Ieee.{of_bits, of_int, add, mul, lt}
use Rattle.floats.specs.Magnitude.{magnitude_of}
use Rattle.floats.specs.Power.{power_of}
use Rattle.cd_plate.specs.Plate.{nothing}
use Rattle.sip_terms.specs.declared.Term.{Term}
use Rattle.sip_terms.specs.Terms.{term_at, count_to, term_count, degree_terms, degrees_to, monomial_terms, least_coefficient, kept_of, value_to, value_of}

-- u^p v^q
abbrev uv : ℕ → ℕ → Term
uv p q = record { p = p; q = q }

-- u^2, u v, v^2
order_two : monomial_terms 2 ≡ uv 2 0 ∷ uv 1 1 ∷ uv 0 2 ∷ []
unfolding degrees_to degree_terms
order_two = refl

-- and then u^3, u^2 v, u v^2, v^3
order_three : monomial_terms 3 ≡ uv 2 0 ∷ uv 1 1 ∷ uv 0 2 ∷ uv 3 0 ∷ uv 2 1 ∷ uv 1 2 ∷ uv 0 3 ∷ []
unfolding degrees_to degree_terms
order_three = refl

-- an order has 3, 7, 12, 18 terms; order 9 has 52
counts : term_count 2 ∷ term_count 3 ∷ term_count 4 ∷ term_count 5 ∷ term_count 9 ∷ [] ≡ 3 ∷ 7 ∷ 12 ∷ 18 ∷ 52 ∷ []
unfolding count_to
counts = refl

-- the last of order 5
last_term : term_at 17 ≡ uv 0 5
unfolding term_at
last_term = refl

-- a whole number as a float
abbrev f : ℕ → Float
f k = of_int binary64 (pos k)

-- 2 u^2 + 3 u v + 5 v^2 at (7, 11)
value_two : value_of (f 2 ∷ f 3 ∷ f 5 ∷ []) (f 7) (f 11) ≡ f 934
unfolding value_to term_at power_of magnitude_of of_bits of_int add mul lt
value_two = refl

-- a coefficient of exactly 1e-20 is dropped, and skipped: its term would be NaN
skipped : value_of (least_coefficient ∷ []) (inf false) nan ≡ nothing
unfolding value_to term_at power_of magnitude_of of_bits mul lt
skipped = refl

-- handed out as 0.0, and so is NaN
dropped : kept_of least_coefficient ∷ kept_of nan ∷ [] ≡ nothing ∷ nothing ∷ []
unfolding kept_of magnitude_of of_bits lt
dropped = refl

-- the next f64 and an infinity are kept
kept : kept_of (of_bits binary64 0x3bc7_9ca1_0c92_4224) ∷ kept_of (inf false) ∷ [] ≡ of_bits binary64 0x3bc7_9ca1_0c92_4224 ∷ inf false ∷ []
unfolding kept_of magnitude_of of_bits lt
kept = refl
