-- The same matches in another order. Definitions only.
use Rattle.std.specs.Prelude.{ℕ, ◌≡◌, List, ◌++◌, length}

-- of two neighbours, eight places each, the second may come first, as often as one likes
pub data Reordered : List ℕ → List ℕ → Type 0 where
  same : {ms : List ℕ} → Reordered ms ms
  swap : (a b ms : List ℕ) → length a ≡ 8 → length b ≡ 8 → Reordered (a ++ (b ++ ms)) (b ++ (a ++ ms))
  keep : (a : List ℕ) {ms ns : List ℕ} → length a ≡ 8 → Reordered ms ns → Reordered (a ++ ms) (a ++ ns)
  after : {ms ns os : List ℕ} → Reordered ms ns → Reordered ns os → Reordered ms os
