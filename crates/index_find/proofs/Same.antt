-- With a table that belongs to the list the search by the index is the plain search: its answer, its matches and their order; with any other it is refused and changes nothing. Assumes nothing.
use Rattle.std.specs.Prelude.{Result, Ok, Err}
use mathlib.Core.Path.{◌≡◌, refl, ◌∙◌}
use mathlib.Core.Bool.{true, false}
use mathlib.Core.List.{List}
use Prim.Native.Nat.{ℕ, ◌/◌}
use lib.Ieee.{Float}
use lib.ListN.{length}
use Rattle.answer.specs.declared.Refusal.{Refusal}
use Rattle.answer.specs.declared.Refusal.TheVariants as refusal
use Rattle.hash_index.specs.Matches.{input_answer, matches_of, room_answer, answer_after, matches_answer, lent_after_matches}
use Rattle.hash_index.specs.Steps.{Taken}
use Rattle.hash_index.proofs.Call.{taken}
use Rattle.index_table.specs.Table.{belongs}
use Rattle.index_find.specs.Indexed.{tabled, indexed_answer, Found}

module _ (places : List ℕ) (hashes : List Float) (catalogue : List ℕ) (others : List Float) (table : List ℕ) where
  -- the answer of the plain search, for every pair of lists: a wrong length is told before the table is looked at
  pub same_answer : (room : ℕ) → belongs table others (length others / 4) ≡ true
      → indexed_answer places hashes catalogue others table (length (matches_of places hashes catalogue others)) room ≡ matches_answer places hashes catalogue others room
  unfolding indexed_answer matches_answer
  same_answer room own = go (input_answer (length places) (length hashes) (length catalogue) (length others)) (taken (length places) (length hashes) (length catalogue) (length others))
    where
      go : (a : Result Unit Refusal) → (a ≡ Ok tt → Taken (length places) (length hashes) (length catalogue) (length others))
          → answer_after a (tabled table others (length catalogue / 4) (length (matches_of places hashes catalogue others)) room)
          ≡ answer_after a (room_answer (length (matches_of places hashes catalogue others)) room)
      go (Ok tt) t = rw ((t refl).same_others, own)
      go (Err why) t = refl

  module _ {old : List ℕ} {r : Result ℕ Refusal} {new : List ℕ} (f : Found places hashes catalogue others table old r new) where
    -- and its list
    pub as_plain : belongs table others (length others / 4) ≡ true
        → (r ≡ matches_answer places hashes catalogue others (length old))
        × (new ≡ lent_after_matches (matches_answer places hashes catalogue others (length old)) (matches_of places hashes catalogue others) old)
    as_plain own = let e = f.answer ∙ same_answer (length old) own in (e, rw (← e) f.matches)

    -- a table of another list, where the lengths are right, is number 11 and changes nothing
    pub foreign : input_answer (length places) (length hashes) (length catalogue) (length others) ≡ Ok tt
        → belongs table others (length catalogue / 4) ≡ false → (r ≡ Err refusal.Index) × (new ≡ old)
    unfolding indexed_answer
    foreign done other = let e : r ≡ Err refusal.Index = f.answer ∙ rw (done, other) in (e, rw e at f.matches)

    -- no refusal changes anything
    pub refused : (why : Refusal) → r ≡ Err why → new ≡ old
    refused why e = rw e at f.matches
