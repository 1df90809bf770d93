-- What the calls of the index promise where the result goes into what is lent: said once, for the face and for C. Definitions only.
use Rattle.answer.specs.declared.Refusal.{Refusal}
use Rattle.std.specs.Prelude.{◌≡◌, List, ℕ, ◌/◌, Float, length, Result}
use Rattle.answer.specs.Answers.{answer_number, lent_after}
use Rattle.hash_index.specs.Matches.{matches_of}
use Rattle.index_table.specs.Table.{table_of}
use Rattle.index_build.specs.Build.{build_answer}
use Rattle.index_find.specs.Indexed.{indexed_answer}
use Rattle.matching_face.specs.Face.{matches_done, Matched}

-- `build_hash_index`: its number, and the table of the quads from the front of the lent list
pub record IndexBuilt (hashes : List Float) (old : List ℕ) (r : ℕ) (new : List ℕ) : Type 0 where
  pub number : r ≡ answer_number (build_answer (length hashes) (length old))
  pub table : new ≡ lent_after (build_answer (length hashes) (length old)) (table_of hashes (length hashes / 4)) old

-- the answer of `find_matches_indexed`
abbrev pub indexed_face : List ℕ → List Float → List ℕ → List Float → List ℕ → ℕ → Result Unit Refusal
indexed_face places hashes catalogue others table room =
    matches_done (indexed_answer places hashes catalogue others table (length (matches_of places hashes catalogue others)) room)

-- `find_matches_indexed`: the matches are the very definition of the plain search's
abbrev pub IndexedFound : List ℕ → List Float → List ℕ → List Float → List ℕ → List ℕ → ℕ → ℕ → List ℕ → ℕ → Type 0
IndexedFound places hashes catalogue others table old before r new found =
    Matched (indexed_face places hashes catalogue others table (length old)) (matches_of places hashes catalogue others)
    old before r new found
