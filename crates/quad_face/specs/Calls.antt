-- Calls of `combinations_4_next` one after another, each on the bytes that the one before it left. Definitions only.
use Rattle.answer.specs.declared.Refusal.{Refusal}
use Rattle.std.specs.Prelude.{List, [], ◌∷◌, ◌++◌, ℕ, zero, suc, Result, Ok, Err}
use Rattle.answer.specs.Answers.{lent_after}
use Rattle.quad_combinations.specs.declared.Set.{Set}
use Rattle.quad_combinations.specs.declared.Step.{Step}
use Rattle.quad_face.specs.Face.{start_face, start_written, step_from, step_places, step_bytes, next_face}

-- five bytes after `combinations_4`
abbrev pub bytes_first : ℕ → List ℕ → List ℕ
bytes_first n bytes = lent_after (start_face n 5) (start_written n) bytes

-- the bytes after a call that has room for a set
abbrev pub bytes_next : ℕ → List ℕ → List ℕ
bytes_next n bytes = lent_after (next_face n bytes 4) (step_bytes (step_from n bytes)) bytes

-- the bytes after k calls
unfoldable pub bytes_after : ℕ → ℕ → List ℕ → List ℕ
bytes_after n zero bytes = bytes
bytes_after n (suc k) bytes = bytes_after n k (bytes_next n bytes)

-- the places that a call writes: none on a refusal
abbrev pub places_by : Result Unit Refusal → Result Step Refusal → List ℕ
places_by (Ok tt) t = step_places t
places_by (Err why) t = []

-- the places that k calls write, one set after another
unfoldable pub places_given : ℕ → ℕ → List ℕ → List ℕ
places_given n zero bytes = []
places_given n (suc k) bytes = places_by (next_face n bytes 4) (step_from n bytes) ++ places_given n k (bytes_next n bytes)

-- the places of sets, one set after another
unfoldable pub places_of_all : List Set → List ℕ
places_of_all [] = []
places_of_all (s ∷ l) = s.a ∷ s.b ∷ s.c ∷ s.d ∷ places_of_all l
