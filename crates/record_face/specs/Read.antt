-- What `read_record` promises where the solution goes into what is lent: said once, for the face and for C. Definitions only.
use Rattle.answer.specs.declared.Refusal.{Refusal}
use Rattle.std.specs.Prelude.{◌≡◌, cond, ◌||◌, List, ℕ, ◌≤◌, ltb, length, Float, Result, Ok, Err}
use Rattle.answer.specs.Answers.{answer_number, first, room_for, written}
use Rattle.answer.specs.declared.Refusal.TheVariants as refusal
use Rattle.wcs.specs.Wcs.{wcs_numbers}
use Rattle.sip_terms.specs.Sums.{sums_of}
use Rattle.record_lines.specs.Lines.{Solution}
use Rattle.record_reader.specs.Reading.{Reading, record_in}
use Rattle.record_reader.specs.declared.Shown.{Shown}
use Rattle.record_load.specs.declared.LoadError.{LoadError}
use Rattle.record_load.specs.declared.LoadError.TheVariants as error

-- what is lent to the call, and what stands there
pub record Lent : Type 0 where
  pub format : ℕ
  pub rows : ℕ
  pub wcs : List Float
  pub order : ℕ
  pub a : List Float
  pub b : List Float
  pub sums : List Float
  pub line : ℕ

-- it, in the order of the call
abbrev pub lent : ℕ → ℕ → List Float → ℕ → List Float → List Float → List Float → ℕ → Lent
lent format rows wcs order a b sums line =
    record { format = format; rows = rows; wcs = wcs; order = order; a = a; b = b; sums = sums; line = line }

-- whether there is room for a solution: six numbers of the WCS, a coefficient for each term, three sums; else number 7
abbrev pub room_in : Solution → Lent → Result Unit Refusal
room_in s o =
    first (room_for 6 (length o.wcs))
    (first (room_for (length s.a) (length o.a))
    (first (room_for (length s.b) (length o.b))
    (room_for 3 (length o.sums))))

-- the answer: number 10, then 7, or done
abbrev pub read_done : Reading → Lent → Result Unit Refusal
read_done (Reading.Shows format s) o = room_in s o
read_done (Reading.WrongAt line) o = Err refusal.Form

-- what stands there when a solution was read: each of its numbers from the front, and the line's number as it was
abbrev pub holding : ℕ → Solution → Lent → Lent
holding format s o =
    lent format s.fit.rows_used (written (wcs_numbers s.wcs) o.wcs) s.order (written s.a o.a) (written s.b o.b)
    (written (sums_of s.fit) o.sums) o.line

-- nothing else than the line's number
abbrev pub at_line : ℕ → Lent → Lent
at_line line o = lent o.format o.rows o.wcs o.order o.a o.b o.sums line

-- a solution where there was room, else what stood there
abbrev pub held_after : Result Unit Refusal → ℕ → Solution → Lent → Lent
held_after (Ok tt) format s o = holding format s o
held_after (Err why) format s o = o

-- what stands there after the call
abbrev pub lent_read : Reading → Lent → Lent
lent_read (Reading.Shows format s) o = held_after (room_in s o) format s o
lent_read (Reading.WrongAt line) o = at_line line o

-- `read_record`: its number, and what stands in all that is lent
pub record RecordRead (text : List ℕ) (old : Lent) (r : ℕ) (new : Lent) : Type 0 where
  pub number : r ≡ answer_number (read_done (record_in text) old)
  pub after : new ≡ lent_read (record_in text) old

-- ---- the steps of the code

-- the places of a that may be filled: none where the WCS or the sums have no room
abbrev pub places_of : ℕ → ℕ → ℕ → ℕ
places_of a wcs sums = cond (ltb wcs 6 || ltb sums 3) 0 a

-- what stands beside the coefficients after an answer of the inner call
abbrev pub put_in : Result Shown LoadError → Lent → Lent
put_in (Ok s) o =
    lent s.format s.fit.rows_used (written (wcs_numbers s.wcs) o.wcs) s.order o.a o.b (written (sums_of s.fit) o.sums) o.line
put_in (Err (error.Wrong wrong)) o = at_line wrong.line o
put_in (Err (error.Refused why)) o = o

-- an answer with a solution comes where there is room for the rest of it
abbrev pub RoomWhereRead : Result Shown LoadError → ℕ → ℕ → Type 0
RoomWhereRead (Ok s) places sums = (6 ≤ places) × (3 ≤ sums)
RoomWhereRead (Err (error.Wrong wrong)) places sums = Unit {0}
RoomWhereRead (Err (error.Refused why)) places sums = Unit {0}
