-- How a record is read into what is lent, from the steps of the code. Assumes nothing.
use Rattle.answer.specs.declared.Refusal.{Refusal}
use Rattle.std.specs.Prelude.{Result, Ok, Err}
use mathlib.Core.Path.{◌≡◌, refl, ap, ◌∙◌}
use mathlib.Core.Bool.{Bool, true, false, cond, ◌||◌}
use mathlib.Core.List.{List, [], ◌++◌, append-nil}
use Prim.Native.Nat.{ℕ, suc, ◌-◌, ◌≤◌}
use native.Mathlib.Omega.{arith}
use borrow.Author.Tests.{ltb-false, lt-ltb, le-ltb}
use lib.Dec.{ltb}
use lib.ListN.{length, take, drop, take-append-drop, drop_of_length-le}
use lib.Seq.{take_all}
use lib.Ieee.{Float}
use Rattle.answer.specs.Answers.{answer_number, first, room_for, lent_after}
use Rattle.answer.specs.declared.Refusal.TheVariants as refusal
use Rattle.answer.proofs.Passed.{neither}
use Rattle.sip_terms.specs.Terms.{count_to, term_count}
use Rattle.record_lines.specs.Lines.{Solution}
use Rattle.record.proofs.Laws.{checked}
use Rattle.record_reader.specs.Reading.{Reading, record_in}
use Rattle.record_reader.specs.declared.Shown.{Shown}
use Rattle.record_load.specs.declared.LoadError.{LoadError}
use Rattle.record_load.specs.declared.LoadError.TheVariants as error
use Rattle.record_load.specs.Load.{a_in, b_in, loaded_in, after_room, loaded_number, RecordLoaded}
use Rattle.record_back.proofs.Tests.{tests}
use Rattle.record_back.proofs.Same.{writes_back}
use Rattle.record_face.specs.Read.{Lent, lent, room_in, read_done, holding, at_line, held_after, lent_read, RecordRead, places_of, put_in, RoomWhereRead}

-- an order that is fitted has terms
some_terms : (order : ℕ) → 2 ≤ order → 1 ≤ term_count order
unfolding count_to
some_terms order h = let e : order - 1 ≡ suc (order - 2) = omega arith in rw e (omega arith)

-- a text that comes to a solution has coefficients on both axes
abbrev Some : Reading → Type 0
Some (Reading.Shows format s) = 1 ≤ length s.a
Some (Reading.WrongAt line) = Unit {0}

some_shown : (t : List ℕ) → Some (record_in t)
some_shown t = go (record_in t) refl
  where
    go : (r : Reading) → record_in t ≡ r → Some r
    go (Reading.Shows format s) e =
        let w = writes_back t format s e in
        let k = checked s.fit s.wcs s.order (length s.a) (length s.b) w.passed in
        omega (arith, k.a_is, some_terms s.order (tests s w.passed).least)
    go (Reading.WrongAt line) e = tt

-- ---- the answer of the inner call

-- no coefficient has room everywhere
room_none : (n : ℕ) → room_for 0 n ≡ Ok tt
room_none n = rw (le-ltb n 0 (omega arith))

-- one has none in no place
no_room : (n : ℕ) → 1 ≤ n → room_for n 0 ≡ Err refusal.Room
no_room n h = rw (lt-ltb 0 n (omega (arith, h)))

-- of a text with a wrong line it is the line
wrong_answer : (line p b : ℕ) → after_room (first (room_for 0 p) (room_for 0 b)) (Err (error.Wrong (record { line = line }))) ≡ Err (error.Wrong (record { line = line }))
wrong_answer line p b = rw (room_none p, room_none b)

-- without room for the WCS or the sums there is none for a
short_room : (s : Solution) (o : Lent) → (ltb (length o.wcs) 6 || ltb (length o.sums) 3) ≡ true → room_in s o ≡ Err refusal.Room
short_room s o e = go (ltb (length o.wcs) 6) (ltb (length o.a) (length s.a)) (ltb (length o.b) (length s.b)) (ltb (length o.sums) 3) e
  where
    room : Bool → Result Unit Refusal
    room b = cond b (Err refusal.Room) (Ok tt)

    go : (w a b n : Bool) → (w || n) ≡ true → first (room w) (first (room a) (first (room b) (room n))) ≡ Err refusal.Room
    go true a b n h = refl
    go false true b n h = refl
    go false false true n h = refl
    go false false false n h = rw h

-- with it the coefficients alone decide
long_room : (s : Solution) (o : Lent) → ltb (length o.wcs) 6 ≡ false → ltb (length o.sums) 3 ≡ false
    → room_in s o ≡ first (room_for (length s.a) (length o.a)) (room_for (length s.b) (length o.b))
long_room s o w n = rw (w, n) (ap (first (room_for (length s.a) (length o.a))) (ends (room_for (length s.b) (length o.b))))
  where
    ends : (x : Result Unit Refusal) → first x (Ok tt) ≡ x
    ends (Ok tt) = refl
    ends (Err why) = refl

-- ---- what the code did

-- all but the coefficients
abbrev bare : Lent → Lent
bare o = lent o.format o.rows o.wcs o.order [] [] o.sums o.line

-- with the coefficients
abbrev filled : List Float → List Float → Lent → Lent
filled a b o = lent o.format o.rows o.wcs o.order a b o.sums o.line

-- the places of a that the inner call was lent
abbrev lent_places : Lent → ℕ
lent_places o = places_of (length o.a) (length o.wcs) (length o.sums)

-- the steps of `read_record`
pub record Steps (t : List ℕ) (o : Lent) (read : Result Shown LoadError) (a b : List Float) (r : ℕ) (n : Lent) : Type 0 where
  pub inner : RecordLoaded (record_in t) (take (lent_places o) o.a) o.b read a b
  pub number : r ≡ loaded_number read
  pub a_is : n.a ≡ a ++ drop (lent_places o) o.a
  pub b_is : n.b ≡ b
  pub rest : bare n ≡ put_in read (bare o)

-- all of it, from the coefficients and the rest
whole : (n o : Lent) (a b : List Float) → n.a ≡ a → n.b ≡ b → bare n ≡ o → n ≡ filled a b o
whole n o a b x y z = λ i. filled (x i) (y i) (z i)

-- what is promised of what a text comes to
abbrev Promised : Reading → Lent → ℕ → Lent → Type 0
Promised R o r n = (r ≡ answer_number (read_done R o)) × (n ≡ lent_read R o)

-- the first wrong line
wrong_end : (line p : ℕ) (o n : Lent) (read : Result Shown LoadError) (a b : List Float) (r : ℕ) → RecordLoaded (Reading.WrongAt line) (take p o.a) o.b read a b
    → r ≡ loaded_number read → n.a ≡ a ++ drop p o.a → n.b ≡ b → bare n ≡ put_in read (bare o) → Promised (Reading.WrongAt line) o r n
wrong_end line p o n read a b r i er ea eb ez =
    let e : read ≡ Err (error.Wrong (record { line = line })) = i.answer ∙ wrong_answer line (length (take p o.a)) (length o.b) in
    let x : n.a ≡ o.a = ea ∙ ap (λ (l : List Float). l ++ drop p o.a) i.first ∙ take-append-drop p o.a in
    (er ∙ ap loaded_number e, whole n (at_line line (bare o)) o.a o.b x (eb ∙ i.second) (ez ∙ ap (λ (l : Result Shown LoadError). put_in l (bare o)) e))

-- no room beside the coefficients
short_end : (format : ℕ) (s : Solution) (o n : Lent) (read : Result Shown LoadError) (a b : List Float) (r : ℕ) → 1 ≤ length s.a → room_in s o ≡ Err refusal.Room
    → RecordLoaded (Reading.Shows format s) (take 0 o.a) o.b read a b → r ≡ loaded_number read → n.a ≡ a ++ drop 0 o.a → n.b ≡ b → bare n ≡ put_in read (bare o)
    → Promised (Reading.Shows format s) o r n
short_end format s o n read a b r some short i er ea eb ez =
    let none = no_room (length s.a) some in
    let e : read ≡ Err (error.Refused refusal.Room) = rw none at i.answer in
    let fa : a ≡ take 0 o.a = rw none at i.first in
    let fb : b ≡ o.b = rw none at i.second in
    let x : n.a ≡ o.a = ea ∙ ap (λ (l : List Float). l ++ drop 0 o.a) fa ∙ take-append-drop 0 o.a in
    let z : bare n ≡ bare o = ez ∙ ap (λ (l : Result Shown LoadError). put_in l (bare o)) e in
    rw short (er ∙ ap loaded_number e, whole n (bare o) o.a o.b x (eb ∙ fb) z)

-- room for the coefficients, or none
long_end : (room : Result Unit Refusal) (format : ℕ) (s : Solution) (o n : Lent) (read : Result Shown LoadError) (a b : List Float) (r : ℕ) → read ≡ after_room room (Ok (record { format = format; fit = s.fit; wcs = s.wcs; order = s.order }))
    → a ≡ lent_after room s.a o.a → b ≡ lent_after room s.b o.b → r ≡ loaded_number read → n.a ≡ a → n.b ≡ b → bare n ≡ put_in read (bare o)
    → (r ≡ answer_number room) × (n ≡ held_after room format s o)
long_end (Ok tt) format s o n read a b r e fa fb er ea eb ez =
    (er ∙ ap loaded_number e, whole n (bare (holding format s o)) _ _ (ea ∙ fa) (eb ∙ fb) (ez ∙ ap (λ (l : Result Shown LoadError). put_in l (bare o)) e))
long_end (Err why) format s o n read a b r e fa fb er ea eb ez =
    (er ∙ ap loaded_number e, whole n (bare o) o.a o.b (ea ∙ fa) (eb ∙ fb) (ez ∙ ap (λ (l : Result Shown LoadError). put_in l (bare o)) e))

-- the promise, from the steps
promised : (R : Reading) (o n : Lent) (read : Result Shown LoadError) (a b : List Float) (r : ℕ) → Some R → RecordLoaded R (take (lent_places o) o.a) o.b read a b
    → r ≡ loaded_number read → n.a ≡ a ++ drop (lent_places o) o.a → n.b ≡ b → bare n ≡ put_in read (bare o) → Promised R o r n
promised (Reading.WrongAt line) o n read a b r some i er ea eb ez = wrong_end line (lent_places o) o n read a b r i er ea eb ez
promised (Reading.Shows format s) o n read a b r some i er ea eb ez = go (ltb (length o.wcs) 6 || ltb (length o.sums) 3) refl i ea
  where
    go : (short : Bool) → (ltb (length o.wcs) 6 || ltb (length o.sums) 3) ≡ short
        → RecordLoaded (Reading.Shows format s) (take (cond short 0 (length o.a)) o.a) o.b read a b
        → n.a ≡ a ++ drop (cond short 0 (length o.a)) o.a → Promised (Reading.Shows format s) o r n
    go true e j f = short_end format s o n read a b r some (short_room s o e) j er f eb ez
    go false e j f =
        let two = neither (ltb (length o.wcs) 6) (ltb (length o.sums) 3) e in
        let all : take (length o.a) o.a ≡ o.a = take_all (length o.a) o.a (omega arith) in
        let none : drop (length o.a) o.a ≡ [] = drop_of_length-le o.a {i = length o.a} (omega arith) in
        let k : RecordLoaded (Reading.Shows format s) o.a o.b read a b = rw all at j in
        let g : n.a ≡ a = f ∙ ap (λ (l : List Float). a ++ l) none ∙ append-nil a in
        rw (long_room s o two.0 two.1)
        (long_end (first (room_for (length s.a) (length o.a)) (room_for (length s.b) (length o.b))) format s o n read a b r k.answer k.first k.second er g eb ez)

pub read_is : (t : List ℕ) (o n : Lent) (read : Result Shown LoadError) (a b : List Float) (r : ℕ) → Steps t o read a b r n → RecordRead t o r n
read_is t o n read a b r s =
    let p = promised (record_in t) o n read a b r (some_shown t) s.inner s.number s.a_is s.b_is s.rest in
    record { number = p.0; after = p.1 }

-- ---- room for the rest of a solution

room_any : (read : Result Shown LoadError) (wcs sums : ℕ) → 6 ≤ wcs → 3 ≤ sums → RoomWhereRead read wcs sums
room_any (Ok s) places sums h g = (h, g)
room_any (Err (error.Wrong wrong)) places sums h g = tt
room_any (Err (error.Refused why)) places sums h g = tt

-- a solution is read only where there is room for all of it
pub room_read : (t : List ℕ) (a b : List Float) (wcs sums : ℕ) (read : Result Shown LoadError) (x y : List Float) → RecordLoaded (record_in t) (take (places_of (length a) wcs sums) a) b read x y → RoomWhereRead read wcs sums
room_read t a b wcs sums read x y i = go (ltb wcs 6 || ltb sums 3) refl i.answer
  where
    none : (R : Reading) → Some R → read ≡ after_room (first (room_for (length (a_in R)) 0) (room_for (length (b_in R)) (length b))) (loaded_in R) → RoomWhereRead read wcs sums
    none (Reading.Shows format s) some e = let n = no_room (length s.a) some in let f : read ≡ Err (error.Refused refusal.Room) = (rw n at e) in rw f tt
    none (Reading.WrongAt line) some e = let f : read ≡ Err (error.Wrong (record { line = line })) = e ∙ wrong_answer line 0 (length b) in rw f tt

    go : (short : Bool) → (ltb wcs 6 || ltb sums 3) ≡ short
        → read ≡ after_room (first (room_for (length (a_in (record_in t))) (length (take (cond short 0 (length a)) a))) (room_for (length (b_in (record_in t))) (length b))) (loaded_in (record_in t)) → RoomWhereRead read wcs sums
    go true e f = none (record_in t) (some_shown t) f
    go false e f = let two = neither (ltb wcs 6) (ltb sums 3) e in room_any read wcs sums (ltb-false wcs 6 two.0) (ltb-false sums 3 two.1)
