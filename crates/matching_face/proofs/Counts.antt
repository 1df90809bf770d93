-- A count that is found is that of the result. Assumes nothing.
use Rattle.answer.specs.declared.Refusal.{Refusal}
use Rattle.std.specs.Prelude.{Result, Ok, Err}
use mathlib.Core.Path.{◌≡◌}
use mathlib.Core.Bool.{Bool, true, false, cond}
use mathlib.Core.List.{List}
use Prim.Native.Nat.{ℕ, ◌/◌}
use native.Mathlib.Omega.{arith}
use lib.Dec.{ltb}
use lib.ListN.{length}
use lib.Ieee.{Float}
use Rattle.answer.specs.Answers.{first}
use Rattle.answer.specs.declared.Refusal.TheVariants as refusal
use Rattle.hash_index.specs.Matches.{answer_after, matches_of, matches_answer}
use Rattle.hash_index.specs.Matches as search
use Rattle.index_table.specs.Table.{belongs}
use Rattle.index_find.specs.Indexed.{after_table, indexed_answer}
use Rattle.aggregate.specs.Extract.{Given, Room, input_answer, place_answer, room_answer, found, found_after, pairs_answer}

in_room : (b : Bool) (m n : ℕ) → cond b (Err refusal.Room) (Ok m) ≡ Ok n → n ≡ m
in_room true m n e = let z : ◌≡◌ {A = ℕ} 0 1 = cc in absurd (omega arith)
in_room false m n e = cc

after : (a : Result Unit Refusal) (found : Result ℕ Refusal) (m n : ℕ) → (found ≡ Ok n → n ≡ m) → answer_after a found ≡ Ok n → n ≡ m
after (Ok tt) found m n f e = f e
after (Err why) found m n f e = let z : ◌≡◌ {A = ℕ} 0 1 = cc in absurd (omega arith)

of_table : (b : Bool) (found : Result ℕ Refusal) (m n : ℕ) → (found ≡ Ok n → n ≡ m) → after_table b found ≡ Ok n → n ≡ m
of_table true found m n f e = f e
of_table false found m n f e = let z : ◌≡◌ {A = ℕ} 0 1 = cc in absurd (omega arith)

-- the matches that are found
pub matches_counted : (places : List ℕ) (hashes : List Float) (catalogue : List ℕ) (others : List Float) (room n : ℕ)
    → matches_answer places hashes catalogue others room ≡ Ok n → n ≡ length (matches_of places hashes catalogue others) / 8
unfolding matches_answer search.room_answer
matches_counted places hashes catalogue others room n e =
    let m = length (matches_of places hashes catalogue others) in
    after (search.input_answer (length places) (length hashes) (length catalogue) (length others)) (search.room_answer m room) (m / 8) n (in_room (ltb room m) (m / 8) n) e

-- those that are found by an index, of which m places are written
pub indexed_counted : (places : List ℕ) (hashes : List Float) (catalogue : List ℕ) (others : List Float) (table : List ℕ) (m room n : ℕ)
    → indexed_answer places hashes catalogue others table m room ≡ Ok n → n ≡ m / 8
unfolding indexed_answer search.room_answer
indexed_counted places hashes catalogue others table m room n e =
    let own = belongs table others (length catalogue / 4) in
    after (search.input_answer (length places) (length hashes) (length catalogue) (length others)) (after_table own (search.room_answer m room)) (m / 8) n
    (of_table own (search.room_answer m room) (m / 8) n (in_room (ltb room m) (m / 8) n)) e

after_tests : (a : Result Unit Refusal) (m n : ℕ) → found_after a m ≡ Ok n → n ≡ m
after_tests (Ok tt) m n e = cc
after_tests (Err why) m n e = let z : ◌≡◌ {A = ℕ} 0 1 = cc in absurd (omega arith)

-- the pairs that are found
pub pairs_counted : (g : Given) (o : Room) (n : ℕ) → pairs_answer g o ≡ Ok n → n ≡ length (found g)
unfolding pairs_answer
pairs_counted g o n e = after_tests (first (input_answer g) (first (place_answer g) (room_answer (length (found g)) o))) (length (found g)) n e
