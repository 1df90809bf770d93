-- Which line of a text is the first wrong one, said of records alone and of no reader. Definitions only.
use Rattle.std.specs.Prelude.{◌≡◌, true, List, ◌++◌, ℕ, suc, ◌≤◌, length, take}
use Rattle.record_lines.specs.Lines.{Solution, text_of}
use Rattle.record_format.specs.Formats.{is_format}
use Rattle.record_lines.specs.Table.{record_as}
use Rattle.record.specs.Record.{text_as, Passed}
use Rattle.record_back.specs.Shown.{SolutionF64}

-- a format, and a solution that the writer accepts, each of its floats an f64
pub record Writable (number : ℕ) (s : Solution) : Type 0 where
  pub format : is_format number ≡ true
  pub accepted : Passed s
  pub floats : SolutionF64 s

-- the text begins with the first k lines of the record of such a solution in such a format; each line is whole, with its newline
pub record Begins (t : List ℕ) (k number : ℕ) (s : Solution) : Type 0 where
  pub writable : Writable number s
  pub lines : k ≤ length (record_as number s)
  pub rest : List ℕ
  pub text : t ≡ text_of (take k (record_as number s)) ++ rest

-- the n-th line is the first wrong one: some record begins with the lines before it, none with the lines up to it, and it is no record
pub record FirstWrong (t : List ℕ) (n : ℕ) : Type 0 where
  pub before : ℕ
  pub one_more : n ≡ suc before
  pub number : ℕ
  pub like : Solution
  pub right : Begins t before number like
  pub wrong : (number : ℕ) (s : Solution) → Begins t n number s → ⊥
  pub none : (number : ℕ) (s : Solution) → Writable number s → text_as number s ≡ t → ⊥
