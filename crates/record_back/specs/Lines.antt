-- The lines that a table of slots gives for numbers. Definitions only.
use Rattle.std.specs.Prelude.{◌≡◌, Bool, true, cond, List, [], ◌∷◌, ℕ, ◌^◌, ◌≤◌, ◌<◌}
use Rattle.std.specs.Float.{binary64}
use Rattle.std.specs.Float.Ieee.{of_bits, to_bits}
use Rattle.record_lines.specs.Lines.{with_line}
use Rattle.record_lines.specs.Table.{Kind, Slot, has_line}
use Rattle.record_scan.specs.Slots.{value_of, line_for, may_show, blank_of}

-- whether a number has a line
abbrev pub stands_for : Slot → ℕ → Bool
stands_for k n = has_line k (value_of k.kind n)

-- the lines of a number for each slot
unfoldable pub lines_for : List Slot → List ℕ → List (List ℕ)
lines_for [] ns = []
lines_for (k ∷ ks) [] = []
lines_for (k ∷ ks) (n ∷ ns) = with_line (stands_for k n) (line_for k.kind k.name n) (lines_for ks ns)

-- the numbers as they are read back: the blank one where no line stands
unfoldable pub shown_for : List Slot → List ℕ → List ℕ
shown_for [] ns = []
shown_for (k ∷ ks) [] = []
shown_for (k ∷ ks) (n ∷ ns) = cond (stands_for k n) n (blank_of k.kind) ∷ shown_for ks ns

-- a number that its line shows whole
abbrev pub Whole64 : Kind → ℕ → Type 0
Whole64 (Kind.Whole least most) n = n ≤ 4294967296
Whole64 (Kind.Real test) n = (to_bits binary64 (of_bits binary64 n) ≡ n) × (n < 2 ^ 64)

-- numbers that slots may hold, one for each
pub data Fit : List Slot → List ℕ → Type 0 where
  none : Fit [] []
  more : {k : Slot} {ks : List Slot} {n : ℕ} {ns : List ℕ} → (k.must ≡ true → may_show k.kind n ≡ true)
      → Whole64 k.kind n → Fit ks ns → Fit (k ∷ ks) (n ∷ ns)
