-- The answer of `read_record`, and what it hands out. Definitions only.
use Rattle.answer.specs.declared.Refusal.{Refusal}
use Rattle.std.specs.Prelude.{◌≡◌, List, [], ℕ, length, Float, Result, Ok, Err}
use Rattle.answer.specs.Answers.{number_of, first, room_for, lent_after}
use Rattle.answer.specs.declared.Refusal.TheVariants as refusal
use Rattle.record_reader.specs.declared.Shown.{Shown}
use Rattle.record_reader.specs.declared.WrongLine.{WrongLine}
use Rattle.record_reader.specs.Reading.{Reading}
use Rattle.record_load.specs.declared.LoadError.{LoadError}
use Rattle.record_load.specs.declared.LoadError.TheVariants as error

-- the coefficients of the first axis; a refused record has none
abbrev pub a_in : Reading → List Float
a_in (Reading.Shows format s) = s.a
a_in (Reading.WrongAt line) = []

-- those of the second
abbrev pub b_in : Reading → List Float
b_in (Reading.Shows format s) = s.b
b_in (Reading.WrongAt line) = []

-- whether a record is read into lists with so many places: number 10, then 7, or done
abbrev pub load_done : Reading → ℕ → ℕ → Result Unit Refusal
load_done (Reading.Shows format s) a b = first (room_for (length s.a) a) (room_for (length s.b) b)
load_done (Reading.WrongAt line) a b = Err refusal.Form

-- the answer where the lists have the places
abbrev pub loaded_in : Reading → Result Shown LoadError
loaded_in (Reading.Shows format s) = Ok (record { format = format; fit = s.fit; wcs = s.wcs; order = s.order })
loaded_in (Reading.WrongAt line) = Err (error.Wrong (record { line = line }))

-- the answer after the room
abbrev pub after_room : Result Unit Refusal → Result Shown LoadError → Result Shown LoadError
after_room (Ok tt) l = l
after_room (Err why) l = Err (error.Refused why)

-- the answer of `read_record`: a solution, or the number of the first wrong line, or number 7
abbrev pub load_answer : Reading → ℕ → ℕ → Result Shown LoadError
load_answer r a b = after_room (first (room_for (length (a_in r)) a) (room_for (length (b_in r)) b)) (loaded_in r)

-- what `read_record` promises of what a text comes to: its answer, and the coefficients from the front of each list
pub record RecordLoaded (t : Reading) (a b : List Float) (r : Result Shown LoadError) (newA new_b : List Float) : Type 0 where
  pub answer : r ≡ load_answer t (length a) (length b)
  pub first : newA ≡ lent_after (load_done t (length a) (length b)) (a_in t) a
  pub second : new_b ≡ lent_after (load_done t (length a) (length b)) (b_in t) b

-- what the answer of `load` says
abbrev pub loaded_of : Result Shown WrongLine → Result Shown LoadError
loaded_of (Ok s) = Ok s
loaded_of (Err wrong) = Err (error.Wrong wrong)

-- the number of an answer: 0 is done
abbrev pub loaded_number : Result Shown LoadError → ℕ
loaded_number (Ok s) = 0
loaded_number (Err (error.Wrong wrong)) = number_of refusal.Form
loaded_number (Err (error.Refused why)) = number_of why
