-- Arrays of choices, filled from the front. Assumes nothing.
use Prim.Native.Nat.{ℕ, ◌+◌, ◌<◌}
use mathlib.Core.Path.{◌≡◌, refl}
use mathlib.Core.Bool.{Bool, true, false}
use mathlib.Core.List.{List}
use native.Mathlib.Omega.{arith}
use lib.Dec.{eqb}
use lib.ListN.{length, set}
use lib.Seq.{get_or-set_same, get_or-set_other}
use borrow.Author.Tests.{eqb-true, eqb-false}
use Rattle.aggregate_best.specs.declared.Choice.{Choice}
use Rattle.aggregate_best.specs.Held.{held}

-- two arrays of choices that are filled from the front
pub filled : (at votes : List ℕ) (f : ℕ → Choice) (j : ℕ) (c : Choice) → j < length at → j < length votes → ((k : ℕ) → k < j → held at votes k ≡ f k)
    → c ≡ f j → (k : ℕ) → k < j + 1 → held (set at j c.at.0) (set votes j c.votes) k ≡ f k
filled at votes f j c la lv h e k u = go (eqb k j) (eqb-true k j) (eqb-false k j)
  where
    go : (t : Bool) → (t ≡ true → k ≡ j) → (t ≡ false → k ≡ j → ⊥) → held (set at j c.at.0) (set votes j c.votes) k ≡ f k
    go true y n = rw (y refl, get_or-set_same at j c.at.0 0 la, get_or-set_same votes j c.votes 0 lv) e
    go false y n = rw (get_or-set_other at j k c.at.0 0 (n refl), get_or-set_other votes j k c.votes 0 (n refl)) (h k (omega (arith, n refl)))
