-- What the search for near quads promises. Definitions only.
use Rattle.std.specs.Prelude.{cond, List, [], ◌∷◌, ℕ, ◌+◌, ◌*◌, min}
use Rattle.hash_lanes.specs.declared.Base.{Base}
use Rattle.hash_lanes.specs.Lanes.{near_at, steps_at}
use Rattle.hash_near.specs.Over.{over}

-- quad j with its key number above its lowest 16 bits, where it is near
unfoldable pub near_one : List ℕ → Base → ℕ → List ℕ
near_one lanes base j = cond (near_at lanes base j) ((steps_at lanes base j * 65536 + j) ∷ []) []

-- the near ones of n quads from `from` on
abbrev pub near_from : List ℕ → Base → ℕ → ℕ → List ℕ
near_from lanes base = over (near_one lanes base)

-- where the block from `from` on ends, of m quads
abbrev pub end_of : ℕ → ℕ → ℕ
end_of from m = min m (from + 64)
