-- The answer of the search by an index: that of the plain search, but that a table of another list is refused. Definitions only.
use Rattle.answer.specs.declared.Refusal.{Refusal}
use Rattle.std.specs.Prelude.{◌≡◌, Bool, true, false, List, ℕ, ◌/◌, Float, length, Result, Err}
use Rattle.answer.specs.declared.Refusal.TheVariants as refusal
use Rattle.hash_index.specs.Matches.{input_answer, matches_of, room_answer, answer_after, lent_after_matches}
use Rattle.index_table.specs.Table.{belongs}

-- the answer after the test of the table: number 11 where it does not belong to the list
abbrev pub after_table : Bool → Result ℕ Refusal → Result ℕ Refusal
after_table true found = found
after_table false found = Err refusal.Index

-- for so many places of matches and so many lent: number 11, then 7, or how many matches
abbrev pub tabled : List ℕ → List Float → ℕ → ℕ → ℕ → Result ℕ Refusal
tabled table others m n room = after_table (belongs table others m) (room_answer n room)

-- the answer of `find_matches_indexed`: 1 and 2 are those of the plain search, and then come 11 and 7
unfoldable pub indexed_answer : List ℕ → List Float → List ℕ → List Float → List ℕ → ℕ → ℕ → Result ℕ Refusal
indexed_answer places hashes catalogue others table n room =
    answer_after (input_answer (length places) (length hashes) (length catalogue) (length others))
    (tabled table others (length catalogue / 4) n room)

-- how a search ends: with its answer, and all matches from the front of the lent list, or nothing changed
pub record Ends (answerFor : ℕ → ℕ → Result ℕ Refusal) (all old : List ℕ) (r : Result ℕ Refusal) (new : List ℕ) : Type 0 where
  pub answer : r ≡ answerFor (length all) (length old)
  pub matches : new ≡ lent_after_matches r all old

-- what `find_matches_indexed` promises: the matches are the very definition of the plain search's
abbrev pub Found : List ℕ → List Float → List ℕ → List Float → List ℕ → List ℕ → Result ℕ Refusal → List ℕ → Type 0
Found places hashes catalogue others table old r new =
    Ends (indexed_answer places hashes catalogue others table) (matches_of places hashes catalogue others) old r new
