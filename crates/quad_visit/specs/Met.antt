-- Which sets of a seed were met before its turn, told by the neighbours alone. Definitions only.
use Rattle.std.specs.Prelude.{ℕ, zero, suc, Bool, cond, ◌||◌, ◌&&◌, List, [], ◌∷◌, ◌++◌, ltb, Float}
use Rattle.quad_near.specs.Near.{nearest}
use Rattle.quad_visit.specs.Visit.{set_of, memb}

-- the neighbours of each star
abbrev pub neighbours : List Float → List Float → ℕ → ℕ → List ℕ
neighbours xs ys k p = nearest xs ys p k

-- whether p has a smaller place than the seed, and the other three, the seed, q and r, among its neighbours
unfoldable pub met_at : (ℕ → List ℕ) → ℕ → ℕ → ℕ → ℕ → Bool
met_at near seed p q r = ltb p seed && (memb seed (near p) && (memb q (near p) && memb r (near p)))

-- whether the set of a seed and three of its neighbours was met before:
-- a member with a smaller place than the seed has the other three among its neighbours
unfoldable pub met : (ℕ → List ℕ) → ℕ → ℕ → ℕ → ℕ → Bool
met near seed p q r = met_at near seed p q r || (met_at near seed q p r || met_at near seed r p q)

-- of the sets of a seed, two of its neighbours and one that stands after them, those that were not met
abbrev pub new_thirds : (ℕ → List ℕ) → ℕ → ℕ → ℕ → List ℕ → List ℕ
new_thirds near seed x y [] = []
new_thirds near seed x y (z ∷ zs) = cond (met near seed x y z) (new_thirds near seed x y zs) (set_of seed x y z ∷ new_thirds near seed x y zs)

-- of those of a seed, its neighbour x, and two that stand after it
abbrev pub new_seconds : (ℕ → List ℕ) → ℕ → ℕ → List ℕ → List ℕ
new_seconds near seed x [] = []
new_seconds near seed x (y ∷ ys) = new_thirds near seed x y ys ++ new_seconds near seed x ys

-- of those of a seed with three of its neighbours
abbrev pub new_firsts : (ℕ → List ℕ) → ℕ → List ℕ → List ℕ
new_firsts near seed [] = []
new_firsts near seed (x ∷ xs) = new_seconds near seed x xs ++ new_firsts near seed xs

-- the new sets of one seed
unfoldable pub new_of : (ℕ → List ℕ) → ℕ → List ℕ
new_of near seed = new_firsts near seed (near seed)

-- seeds rise: those from `from` on, `left` of them
abbrev pub new_from : (ℕ → List ℕ) → ℕ → ℕ → List ℕ
new_from near from zero = []
new_from near from (suc left) = new_of near from ++ new_from near (suc from) left
