-- What is said of the visited sets. Definitions only.
use Rattle.std.specs.Prelude.{◌≡◌, true, cond, List, [], ◌∷◌, ℕ, ◌-◌, ◌*◌, ◌/◌, ◌%◌, ◌≤◌, ◌<◌, length, get_or, Float}
use Rattle.quad_visit.specs.Visit.{pack, from_seed, memb, visited}

-- s is a set of four rising places below n
pub record FourBelow (n s : ℕ) : Type 0 where
  pub a : ℕ
  pub b : ℕ
  pub c : ℕ
  pub d : ℕ
  pub ab : a < b
  pub bc : b < c
  pub cd : c < d
  pub dn : d < n
  pub is : s ≡ pack (a ∷ b ∷ c ∷ d ∷ []) 0

-- the four bytes of a set, the highest first, which are its places
abbrev pub bytes_of : ℕ → List ℕ
bytes_of s = s / 16777216 % 256 ∷ s / 65536 % 256 ∷ s / 256 % 256 ∷ s % 256 ∷ []

-- of visits, one after another, the first of each set: one that was made before is left out; `earlier` are the visits before these
abbrev pub first_visits : List ℕ → List ℕ → List ℕ
first_visits earlier [] = []
first_visits earlier (s ∷ ss) = cond (memb s earlier) (first_visits (s ∷ earlier) ss) (s ∷ first_visits (s ∷ earlier) ss)

-- the visited sets are the sets of all visits, each once, at its first visit
pub record VisitedSets (xs ys : List Float) (k : ℕ) : Type 0 where
  -- they are the first visits, in the order of the visits
  pub first : visited xs ys k ≡ first_visits [] (from_seed xs ys k 0 (length xs))
  -- no set that is visited is left out, and no other is there
  pub every : (s : ℕ) → memb s (visited xs ys k) ≡ memb s (from_seed xs ys k 0 (length xs))
  -- none comes twice
  pub once : (i j : ℕ) → i < j → j < length (visited xs ys k) → get_or (visited xs ys k) i 0 ≡ get_or (visited xs ys k) j 0 → ⊥
  -- each is a set of four different stars of the list
  pub fours : (s : ℕ) → memb s (visited xs ys k) ≡ true → FourBelow (length xs) s
  -- so that they are at most the sets of four of n stars, n (n - 1) (n - 2) (n - 3) / 24
  pub few : length (visited xs ys k) * 24 ≤ length xs * (length xs - 1) * (length xs - 2) * (length xs - 3)
  -- and, with at most ten neighbours, at most 120 for each star
  pub each_120 : k ≤ 10 → length (visited xs ys k) ≤ length xs * 120
