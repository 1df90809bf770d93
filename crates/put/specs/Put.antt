-- A buffer with a text put into it. Definitions only.
use Rattle.std.specs.Prelude.{ℕ, ◌+◌, ◌≤◌, ◌≡◌, List, length}
use Rattle.std.proofs.lemmas.List.Edits.{sets}

-- `new` is `old` with the text in place of what stood from `at` on, and `next` is the place after the text
pub record Put (old : List ℕ) (at : ℕ) (text : List ℕ) (next : ℕ) (new : List ℕ) : Type 0 where
  pub next_is : next ≡ at + length text
  pub new_is : new ≡ sets old at text

-- the text has room in `old` from `at` on
pub record Room (old : List ℕ) (at : ℕ) (text : List ℕ) : Type 0 where
  pub room : at + length text ≤ length old
