-- Laws of what is handed out. Assumes nothing.
use Rattle.answer.specs.declared.Refusal.{Refusal}
use Rattle.std.specs.Prelude.{Result, Ok, Err}
use mathlib.Core.Path.{◌≡◌, refl, ◌∙◌}
use mathlib.Core.List.{List}
use Prim.Native.Nat.{ℕ, ◌≤◌}
use native.Mathlib.Omega.{arith}
use borrow.Author.Tests.{ltb-false, le-ltb}
use lib.Dec.{ltb}
use lib.ListN.{length, take}
use lib.Ieee.{Float}
use Rattle.answer.specs.Answers.{first, room_for, lent_after}
use Rattle.answer.specs.declared.Refusal.TheVariants as refusal
use Rattle.answer.proofs.Passed.{passed, both}
use Rattle.record_reader.specs.declared.Shown.{Shown}
use Rattle.record_reader.specs.declared.WrongLine.{WrongLine}
use Rattle.record_reader.specs.Reading.{Reading}
use Rattle.record_reader.specs.Loaded.{shown_in, shown_terms}
use Rattle.record_load.specs.declared.LoadError.{LoadError}
use Rattle.record_load.specs.Load.{a_in, b_in, load_done, loaded_in, after_room, loaded_of, RecordLoaded}

-- both lists have the places
pub room_of : (n a m b : ℕ) → first (room_for n a) (room_for m b) ≡ Ok tt → (n ≤ a) × (m ≤ b)
room_of n a m b e =
    let f = both (room_for n a) (room_for m b) e in
    (ltb-false a n (passed (ltb a n) refusal.Room (Ok tt) f.0).0, ltb-false b m (passed (ltb b m) refusal.Room (Ok tt) f.1).0)

-- what was handed out into two lists, of what a text comes to
record Handed (R : Reading) (s : Result Shown WrongLine) (xs ys a b x y : List Float) (res : Result Unit Refusal) : Type 0 where
  answer : after_room res (loaded_of s) ≡ after_room (first (room_for (length (a_in R)) (length a)) (room_for (length (b_in R)) (length b))) (loaded_in R)
  first_is : x ≡ lent_after (load_done R (length a) (length b)) (a_in R) a
  second_is : y ≡ lent_after (load_done R (length a) (length b)) (b_in R) b

handed_of : (s : Result Shown WrongLine) (xs ys a b x y : List Float) (res : Result Unit Refusal)
    → res ≡ first (room_for (length (take (shown_terms s) xs)) (length a)) (room_for (length (take (shown_terms s) ys)) (length b))
    → x ≡ lent_after res (take (shown_terms s) xs) a → y ≡ lent_after res (take (shown_terms s) ys) b → Handed (shown_in s xs ys) s xs ys a b x y res
handed_of (Ok s) xs ys a b x y res e ea eb = record { answer = rw e; first_is = rw (← e) ea; second_is = rw (← e) eb }
handed_of (Err wrong) xs ys a b x y res e ea eb =
    let d : res ≡ (Ok tt) = e ∙ rw (le-ltb (length a) 0 (omega arith), le-ltb (length b) 0 (omega arith)) refl in
    record { answer = rw e; first_is = (rw d at ea); second_is = (rw d at eb) }

-- the promise, from the steps of the code
pub handed : (R : Reading) (s : Result Shown WrongLine) (n : ℕ) (xs ys a b x y : List Float) (res : Result Unit Refusal) (r : Result Shown LoadError) → shown_in s xs ys ≡ R → n ≡ shown_terms s
    → res ≡ first (room_for (length (take n xs)) (length a)) (room_for (length (take n ys)) (length b)) → x ≡ lent_after res (take n xs) a → y ≡ lent_after res (take n ys) b
    → r ≡ after_room res (loaded_of s) → RecordLoaded R a b r x y
handed R s n xs ys a b x y res r eR en eres ea eb er =
    let h = handed_of s xs ys a b x y res (rw en at eres) (rw en at ea) (rw en at eb) in
    rw (← eR) (record { answer = er ∙ h.answer; first = h.first_is; second = h.second_is })
