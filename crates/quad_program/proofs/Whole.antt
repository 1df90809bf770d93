-- Laws of the whole program: the text for quads that were found, for a refusal, and for a text that is not in form.
use Rattle.std.specs.Prelude.{Result, Ok, Err}
use mathlib.Core.Path.{◌≡◌, refl, sym, ◌∙◌, ap}
use mathlib.Core.Bool.{Bool, true, false, cond, ◌||◌}
use mathlib.Core.List.{List, [], ◌∷◌, ◌++◌, append-nil}
use Prim.Native.Nat.{ℕ, ◌*◌, ◌/◌, ◌≤◌}
use native.Mathlib.Omega.{arith}
use borrow.Author.Tests.{ltb-false}
use lib.Dec.{ltb}
use lib.ListN.{length, take, drop, length-append, length-take}
use lib.Seq.{take_at, drop_at}
use lib.Ieee.{Float}
use Rattle.put.specs.Put.{Put}
use Rattle.put.proofs.Writing.{put_front, put_length}
use Rattle.answer.specs.Answers.{number_of}
use Rattle.answer.specs.declared.Refusal.{Refusal}
use Rattle.answer.specs.declared.Refusal.TheVariants as refusal
use Rattle.quad.specs.Quads.{quad_of, places_in, hash_in, all_places, all_hashes, quad_places, quad_hashes, input_answer, room_answer, answer_after, quads_answer, lent_after_quads}
use Rattle.quad.proofs.Laws.{as_long}
use Rattle.quad.proofs.Few.{fourteen, room_for_all}
use Rattle.std.proofs.Common.{Option, Some, None}
use Rattle.quad_program.specs.declared.Input.{Input}
use Rattle.quad_program.specs.Form.{parsed, form_in}
use Rattle.quad_program.specs.Print.{all_lines, status_line, found_text, lines_of}
use Rattle.quad_program.specs.Program.{quads_of, status_of, quads_lines, quads_text, program_text}
use Rattle.quad_program.proofs.Printing.{lines_front}

-- ---- quads that were found

-- an answer with quads is that of the room
after_found : (a : Result Unit Refusal) (q : Result ℕ Refusal) (n : ℕ) → answer_after a q ≡ Ok n → q ≡ Ok n
after_found (Ok tt) q n e = e
after_found (Err why) q n e = let z : ◌≡◌ {A = ℕ} 0 1 = cc in absurd (omega arith)

-- of m places there is room for all, and four are a quad
room_found : (m n : ℕ) → room_answer m 4004 4004 ≡ Ok n → (m / 4 ≡ n) × (m ≤ 4004)
unfolding room_answer
room_found m n e = go (ltb 4004 m) refl e where
  go : (b : Bool) → ltb 4004 m ≡ b → cond (b || b) (Err refusal.Room) (Ok (m / 4)) ≡ Ok n → (m / 4 ≡ n) × (m ≤ 4004)
  go true t f = let z : ◌≡◌ {A = ℕ} 0 1 = cc in absurd (omega arith)
  go false t f = (cc, ltb-false 4004 m t)

-- at most 1,001 quads are found, and there are four places for each
pub found_few : (xs ys : List Float) (k : ℕ) (least : Float) (n : ℕ) → quads_answer xs ys k least 4004 4004 ≡ Ok n
    → (n ≤ 1001) × (4 * n ≤ length (quad_places xs ys k least))
unfolding quads_answer
found_few xs ys k least n e =
    let m = length (quad_places xs ys k least) in
    let r = room_found m n (after_found (input_answer xs ys k least) (room_answer m 4004 4004) n e) in
    (omega (arith, r.0, r.1), omega (arith, r.0))

-- as many hash numbers as places
all_as_long : (xs ys : List Float) (least : Float) (l : List ℕ) → length (all_hashes xs ys least l) ≡ length (all_places xs ys least l)
all_as_long xs ys least [] = refl
all_as_long xs ys least (s ∷ l) =
    let q = quad_of xs ys least s in
    rw (length-append (hash_in q) (all_hashes xs ys least l), length-append (places_in q) (all_places xs ys least l), as_long q, all_as_long xs ys least l)

-- and so of all quads
hashes_long : (xs ys : List Float) (k : ℕ) (least : Float) → length (quad_hashes xs ys k least) ≡ length (quad_places xs ys k least)
unfolding quad_places quad_hashes
hashes_long xs ys k least = simp all_as_long

-- with room for 4,004 places and as many hash numbers the answer for at most 14 stars is never number 7
room_for_14 : (xs ys : List Float) (k : ℕ) (least : Float) → length xs ≤ 14 → quads_answer xs ys k least 4004 4004 ≡ quads_of xs ys k least
unfolding quads_of
room_for_14 xs ys k least h = room_for_all xs ys k least 4004 4004 (fourteen xs ys k least h) (fourteen xs ys k least h)

-- the text for quads that were written from the front of two lists
pub found_text_lem : (xs ys : List Float) (k : ℕ) (least : Float) (r : Result ℕ Refusal) (n : ℕ) (ps₀ ps : List ℕ) (hs₀ hs : List Float) → length xs ≤ 14 → r ≡ Ok n
    → r ≡ quads_answer xs ys k least 4004 4004
    → ps ≡ lent_after_quads r (quad_places xs ys k least) ps₀ → hs ≡ lent_after_quads r (quad_hashes xs ys k least) hs₀
    → found_text n ps hs ≡ quads_text xs ys k least
unfolding quads_text quads_lines lines_of found_text
found_text_lem xs ys k least r n ps₀ ps hs₀ hs few f e p h =
    let b = found_few xs ys k least n (sym e ∙ f) in
    let us = quad_places xs ys k least in
    let vs = quad_hashes xs ys k least in
    let l : all_lines n (us ++ drop (length us) ps₀) (vs ++ drop (length vs) hs₀) ≡ all_lines n us vs = lines_front n us (drop (length us) ps₀) vs (drop (length vs) hs₀) b.1 (omega (arith, b.1, hashes_long xs ys k least)) in
    rw (p, h, ← room_for_14 xs ys k least few, ← e, f, l)

-- the text for a refusal
pub refused_text : (xs ys : List Float) (k : ℕ) (least : Float) (r : Result ℕ Refusal) (why : Refusal) (n : ℕ) → length xs ≤ 14 → r ≡ Err why
    → r ≡ quads_answer xs ys k least 4004 4004 → n ≡ number_of why → status_line n ≡ quads_text xs ys k least
unfolding quads_text quads_lines lines_of
refused_text xs ys k least r why n few f e h = rw (h, ← room_for_14 xs ys k least few, ← e, f) (sym (append-nil (status_line (number_of why))))

-- ---- what a text says

-- the text for one that is not in form
pub wrong_text : (s : List ℕ) (r : Option Input) (xs ys : List Float) (n : ℕ) → r ≡ None → form_in r xs ys ≡ parsed s → n ≡ number_of refusal.Form → status_line n ≡ program_text s
unfolding program_text status_of
wrong_text s r xs ys n e f h = rw (← f, e, h) (sym (append-nil (status_line (number_of refusal.Form))))

-- the text for one that is
pub says_text : (s : List ℕ) (r : Option Input) (xs ys : List Float) (a : Input) → r ≡ Some a → form_in r xs ys ≡ parsed s
    → quads_text (take a.stars xs) (take a.stars ys) a.k a.least ≡ program_text s
unfolding program_text status_of quads_text
says_text s r xs ys a e f = rw (← f, e)

-- at most 14 stars are in the front of the lists that so many were read into
pub few_front : (n : ℕ) (xs : List Float) → n ≤ 14 → length (take n xs) ≤ 14
few_front n xs h = rw length-take (omega arith)

-- a text at the front of the buffer: it is there, so long, and what comes after it is as it was
pub at_front : (t u old new : List ℕ) (r : ℕ) → t ≡ u → length old ≡ 42100 → r ≤ 42100 → Put old 0 t r new
    → (take r new ≡ u) × ((r ≡ length u) × ((drop r new ≡ drop r old) × ((r ≤ length new) × (r ≡ length (take r new)))))
at_front t u old new r e l h p =
    let n : r ≡ length t = omega (arith, p.next_is) in
    let f : new ≡ t ++ drop (length t) old = put_front (record { room = omega (arith, p.next_is) }) p in
    let k : take r new ≡ t = ap (take r) f ∙ take_at t (drop (length t) old) r (sym n) in
    let d : drop r new ≡ drop r old = ap (drop r) f ∙ drop_at t (drop (length t) old) r (sym n) ∙ ap (λ (i : ℕ). drop i old) (sym n) in
    (k ∙ e, (n ∙ ap length e, (d, (omega (arith, l, h, put_length p), n ∙ sym (ap length k)))))
