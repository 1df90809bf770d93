-- The rows in order, in the fronts of arrays of a hundred. Assumes nothing.
use mathlib.Core.Path.{◌≡◌}
use mathlib.Core.List.{List}
use Prim.Native.Nat.{ℕ, ◌≤◌}
use native.Mathlib.Omega.{arith}
use lib.ListN.{length, take, length-take}
use lib.Seq.{length-take-le}
use lib.Ieee.{Float}
use Rattle.verify_order.specs.Sorted.{sorted_places, picked}
use Rattle.verify_order.proofs.Picking.{sorted_length}

-- how long a front is
pub front_long : {A : Type 0} (n : ℕ) (l : List A) → length l ≡ 100 → n ≤ 100 → length (take n l) ≡ n
front_long n l e h = length-take-le n l (omega arith)

pub front_few : {A : Type 0} (n : ℕ) (l : List A) → n ≤ 100 → length (take n l) ≤ 100
front_few n l h = rw length-take (omega arith)

-- a list in order stands in the front of its array
pub front_sorted : (px py xs out : List Float) (at : List ℕ) → take (length px) at ≡ sorted_places px py
    → take (length (take (length px) at)) out ≡ picked xs (take (length px) at)
    → take (length px) out ≡ picked xs (sorted_places px py)
front_sorted px py xs out at e h = rw (e, sorted_length) at h
