-- Laws of the fields that are read: each way on and each way out of the loops. Assumes nothing.
use mathlib.Core.Path.{◌≡◌}
use mathlib.Core.List.{List}
use Prim.Native.Nat.{ℕ, ◌+◌, ◌≤◌, ◌<◌}
use native.Mathlib.Numerals.{add-one}
use borrow.Author.Tests.{eq-eqb, ne_eqb}
use lib.ListN.{length, get_or, drop, drop_of_length-le}
use lib.Seq.{drop-cons}
use Rattle.cases.specs.Fields.{after_space}

-- a byte is no space
pub space_more : (s : List ℕ) (p : ℕ) → p < length s → (get_or s p 0 ≡ 32 → ⊥) → after_space (drop (p + 1) s) (p + 1) ≡ after_space (drop p s) p
unfolding after_space
space_more s p hp e = rw (drop-cons s p 0 hp, ne_eqb (get_or s p 0) 32 e, add-one p)

-- a byte is a space
pub space_found : (s : List ℕ) (p : ℕ) → p < length s → get_or s p 0 ≡ 32 → p + 1 ≡ after_space (drop p s) p
unfolding after_space
space_found s p hp e = rw (drop-cons s p 0 hp, eq-eqb (get_or s p 0) 32 e)

-- the text ends
pub space_none : (s : List ℕ) (p : ℕ) → length s ≤ p → p ≡ after_space (drop p s) p
unfolding after_space
space_none s p hp = rw (drop_of_length-le s {i = p} hp)
