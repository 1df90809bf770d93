-- The new sets of a seed by the ranks of its neighbours and a table of each two of them. Definitions only.
use Rattle.std.specs.Prelude.{ℕ, zero, suc, ◌+◌, ◌-◌, ◌*◌, ◌<◌, ◌≡◌, Bool, false, cond, ◌||◌, ◌&&◌, List, [], ◌∷◌, ◌++◌, ltb, length, get_or}
use Rattle.quad_visit.specs.Visit.{set_of, memb}

-- whether p is below the seed, and has the seed and q among its neighbours
unfoldable pub cell_of : (ℕ → List ℕ) → ℕ → ℕ → ℕ → Bool
cell_of near seed p q = (ltb p seed && memb seed (near p)) && memb q (near p)

-- the table has ten ranks to a row
abbrev pub cell : List Bool → ℕ → ℕ → Bool
cell cells a b = get_or cells (a * 10 + b) false

-- the table of a seed whose neighbours are l
pub record Table (near : ℕ → List ℕ) (seed : ℕ) (l : List ℕ) (cells : List Bool) : Type 0 where
  pub at : (a b : ℕ) → a < length l → b < length l → cell cells a b ≡ cell_of near seed (get_or l a 0) (get_or l b 0)

-- whether the set of three ranks was met
abbrev pub cells_met : List Bool → ℕ → ℕ → ℕ → Bool
cells_met cells a b c = (cell cells a b && cell cells a c) || ((cell cells b a && cell cells b c) || (cell cells c a && cell cells c b))

-- the set of three ranks, unless it was met
abbrev pub one_by : List Bool → ℕ → List ℕ → ℕ → ℕ → ℕ → List ℕ
one_by cells seed near a b c = cond (cells_met cells a b c) [] (set_of seed (get_or near a 0) (get_or near b 0) (get_or near c 0) ∷ [])

-- the lists of the numbers from `from` on, `left` of them, one after the other
abbrev pub over : (ℕ → List ℕ) → ℕ → ℕ → List ℕ
over f from zero = []
over f from (suc left) = f from ++ over f (suc from) left

-- those of two ranks and a greater one
unfoldable pub thirds_by : List Bool → ℕ → List ℕ → ℕ → ℕ → List ℕ
thirds_by cells seed near a b = over (one_by cells seed near a b) (b + 1) (length near - (b + 1))

-- those of a rank and two greater ones
unfoldable pub seconds_by : List Bool → ℕ → List ℕ → ℕ → List ℕ
seconds_by cells seed near a = over (thirds_by cells seed near a) (a + 1) (length near - (a + 1))

-- those of all ranks
unfoldable pub firsts_by : List Bool → ℕ → List ℕ → List ℕ
firsts_by cells seed near = over (seconds_by cells seed near) 0 (length near)
