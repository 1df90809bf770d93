-- How the lines of a table are read. A line is right where it is, byte for byte, the line that the writer puts for the number
-- that stands in it. Definitions only.
use Rattle.std.specs.Prelude.{Bool, true, cond, not, ◌&&◌, List, [], ◌∷◌, ℕ, ◌+◌, drop, Float, Result, Ok, Err}
use Rattle.std.specs.Float.{binary64}
use Rattle.std.specs.Float.Ieee.{of_bits}
use Rattle.scan_digits.specs.Read.{Number, read_hex, read_decimal}
use Rattle.scan.specs.declared.Wrong.{Wrong}
use Rattle.scan.specs.Read.{read_bytes}
use Rattle.domain.specs.Domain.{is_position, is_finite}
use Rattle.sip_terms.specs.Terms.{is_kept}
use Rattle.record_lines.specs.Table.{Kind, Slot, Value, may_hold, line_of}
use Rattle.record_scan.specs.declared.Spot.{Spot}
use Rattle.record_scan.specs.declared.Line.{Line}
use Rattle.record_scan.specs.declared.Test.{Test}
use Rattle.record_scan.specs.declared.Test.TheVariants as test

-- ---- the tests of the table, as the code names them

-- what a float must be
abbrev pub test_of : Test → Float → Bool
test_of test.Position = is_position
test_of test.Finite = is_finite
test_of test.Any = λ (x : Float). true
test_of test.Kept = λ (x : Float). is_kept x

-- the line of a float
abbrev pub real_slot : List ℕ → Bool → Test → Slot
real_slot name must t = record { name = name; kind = Kind.Real (test_of t); must = must }

-- ---- the numbers that are read: of a float its bits

-- the value that a number stands for
abbrev pub value_of : Kind → ℕ → Value
value_of (Kind.Whole least most) n = Value.Whole n
value_of (Kind.Real test) n = Value.Real (of_bits binary64 n)

-- whether a line may show it
abbrev pub may_show : Kind → ℕ → Bool
may_show kind n = may_hold kind (value_of kind n)

-- the line that the writer puts for it
abbrev pub line_for : Kind → List ℕ → ℕ → List ℕ
line_for kind name n = line_of name (value_of kind n)

-- the number of a line that does not stand
abbrev pub blank_of : Kind → ℕ
blank_of (Kind.Whole least most) = least
blank_of (Kind.Real test) = 0

-- ---- the number that stands in a line

-- the number that was read
abbrev pub number_in : Number → ℕ
number_in (Ok (n, p)) = n
number_in (Err w) = 0

-- the number after a name
abbrev pub after_name : Result ℕ Wrong → (ℕ → Number) → ℕ
after_name (Ok p) read = number_in (read p)
after_name (Err w) read = 0

-- the decimal number after a name that stands at a place of the text, and 0 where there is none
unfoldable pub whole_at : List ℕ → List ℕ → ℕ → ℕ
whole_at name s at = after_name (read_bytes name (drop at s) at) (λ (p : ℕ). read_decimal (drop p s) p)

-- the 16 hexadecimal digits there
unfoldable pub bits_at : List ℕ → List ℕ → ℕ → ℕ
bits_at name s at = after_name (read_bytes name (drop at s) at) (λ (p : ℕ). read_hex 16 (drop p s) p 0)

-- either of them
abbrev pub number_at : Kind → List ℕ → List ℕ → ℕ → ℕ
number_at (Kind.Whole least most) name s at = whole_at name s at
number_at (Kind.Real test) name s at = bits_at name s at

-- ---- reading

-- a line that does not stand: nothing is passed, and a line that must stand is the first wrong one
abbrev pub missed_line : Spot → Bool → ℕ → Line
missed_line c must blank = record { value = blank; next = record { at = c.at; line = c.line; good = c.good && not must } }

-- a line that stands up to a place, or does not
abbrev pub found_line : Spot → Bool → ℕ → ℕ → Result ℕ Wrong → Line
found_line c must blank value (Ok p) = record { value = value; next = record { at = p; line = c.line + 1; good = true } }
found_line c must blank value (Err w) = missed_line c must blank

-- a line whose number it may hold or not, and which stands or not
abbrev pub step_of : Spot → Bool → ℕ → Bool → ℕ → Result ℕ Wrong → Line
step_of c must blank ok value found = cond (c.good && ok) (found_line c must blank value found) (missed_line c must blank)

-- the line of a slot: its number is the one that stands there, and it is right where the writer's line for that number stands there
unfoldable pub read_slot : Slot → List ℕ → Spot → Line
read_slot k s c =
    let n = number_at k.kind k.name s c.at in
    step_of c k.must (blank_of k.kind) (may_show k.kind n) n (read_bytes (line_for k.kind k.name n) (drop c.at s) c.at)

-- the numbers of the lines of slots, and where the next line starts
pub record Taken : Type 0 where
  pub values : List ℕ
  pub next : Spot

-- a line before others
abbrev pub before : Line → Taken → Taken
before l t = record { values = l.value ∷ t.values; next = t.next }

-- the lines of slots, one after the other
unfoldable pub read_slots : List Slot → List ℕ → Spot → Taken
read_slots [] s c = record { values = []; next = c }
read_slots (k ∷ ks) s c = before (read_slot k s c) (read_slots ks s (read_slot k s c).next)
