-- A number of members at the front of a list, in the two parts that lending them asks for. Assumes nothing.
use mathlib.Core.Path.{◌≡◌, sym}
use mathlib.Core.List.{List}
use Prim.Native.Nat.{ℕ, ◌≤◌}
use lib.ListN.{length, take}
use lib.Seq.{length-take-le}

pub counts : {A : Type 0} → (n : ℕ) → (l : List A) → n ≤ length l → (n ≤ length l) × (n ≡ length (take n l))
counts n l h = (h, sym (length-take-le _ _ h))
