-- A text has one first wrong line at most, so that the number is determined by the records alone; and what follows the longest record is not looked at. Assumes nothing.
use mathlib.Core.Path.{◌≡◌, refl, sym, ap, ◌∙◌}
use mathlib.Core.Bool.{Bool, true, false}
use mathlib.Core.List.{List, [], ◌∷◌, ◌++◌, append_assoc}
use Prim.Native.Nat.{ℕ, zero, suc, ◌+◌, ◌-◌, ◌≤◌, ◌<◌}
use native.Mathlib.Omega.{arith}
use borrow.Author.Tests.{ltb-true, ltb-false}
use lib.Dec.{ltb}
use lib.ListN.{length, take, drop, length-append, take-append-drop}
use lib.Seq.{take-append-add, length-take-le}
use Rattle.record_lines.specs.Lines.{Solution, text_of}
use Rattle.record_lines.specs.Table.{record_as}
use Rattle.record_lines.proofs.Laws.{text_append}
use Rattle.record.specs.Record.{text_as}
use Rattle.record_back.specs.Shown.{most_bytes}
use Rattle.record_back.proofs.Most.{record_most}
use Rattle.record_reader.specs.Reading.{Reading, record_in}
use Rattle.record_back.specs.First.{Writable, Begins, FirstWrong}
use Rattle.record_back.proofs.Same.{writes_back}
use Rattle.record_back.proofs.First.{first_wrong}

-- ---- one first wrong line

-- the first lines of a list, and those after them
lines_parted : (k m : ℕ) (ls : List (List ℕ)) → k ≤ m → text_of (take m ls) ≡ text_of (take k ls) ++ text_of (drop k (take m ls))
lines_parted k m ls h = ap text_of (sym (take-append-drop k (take m ls)) ∙ ap (λ (l : List (List ℕ)). l ++ drop k (take m ls)) (fewer k m ls h)) ∙ text_append (take k ls) (drop k (take m ls))
  where
    fewer : (k m : ℕ) (ls : List (List ℕ)) → k ≤ m → take k (take m ls) ≡ take k ls
    fewer zero m ls h = refl
    fewer (suc k) zero ls h = absurd (omega (arith, h))
    fewer (suc k) (suc m) [] h = refl
    fewer (suc k) (suc m) (l ∷ ls) h = ap (λ (x : List (List ℕ)). l ∷ x) (fewer k m ls (omega (arith, h)))

-- a text that begins with lines of a record begins with fewer of them
begins_less : (t : List ℕ) (k m number : ℕ) (s : Solution) → k ≤ m → Begins t m number s → Begins t k number s
begins_less t k m number s h b =
    let x = text_of (take k (record_as number s)) in
    let y = text_of (drop k (take m (record_as number s))) in
    record {
      writable = b.writable;
      lines = omega (arith, b.lines, h);
      rest = y ++ b.rest;
      text = b.text ∙ ap (λ (l : List ℕ). l ++ b.rest) (lines_parted k m (record_as number s) h) ∙ append_assoc x y b.rest;
    }

-- no first wrong line comes before another
not_before : (t : List ℕ) (n m : ℕ) → FirstWrong t n → FirstWrong t m → n < m → ⊥
not_before t n m f g h = f.wrong g.number g.like (begins_less t n g.before g.number g.like (omega (arith, h, g.one_more)) g.right)

-- THE LAW: there is one at most
pub only_one : (t : List ℕ) (n m : ℕ) → FirstWrong t n → FirstWrong t m → n ≡ m
only_one t n m f g = go (ltb n m) (ltb m n) refl refl
  where
    go : (a b : Bool) → ltb n m ≡ a → ltb m n ≡ b → n ≡ m
    go true b ea eb = absurd (not_before t n m f g (ltb-true n m ea))
    go false true ea eb = absurd (not_before t m n g f (ltb-true m n eb))
    go false false ea eb = omega (arith, ltb-false n m ea, ltb-false m n eb)

-- and a text that has one is refused at it
pub refused_there : (t : List ℕ) (n : ℕ) → FirstWrong t n → record_in t ≡ Reading.WrongAt n
refused_there t n f = go (record_in t) refl
  where
    go : (r : Reading) → record_in t ≡ r → r ≡ Reading.WrongAt n
    go (Reading.Shows format s) e = let w = writes_back t format s e in absurd (f.none format s (record { format = w.format; accepted = w.passed; floats = w.f64 }) w.same)
    go (Reading.WrongAt m) e = ap Reading.WrongAt (only_one t m n (first_wrong t m e) f)

-- ---- longer texts

-- the first lines of a record have no more bytes than it
lines_few : (k : ℕ) (ls : List (List ℕ)) → length (text_of (take k ls)) ≤ length (text_of ls)
lines_few k ls =
    let e = ap length (ap text_of (sym (take-append-drop k ls)) ∙ text_append (take k ls) (drop k ls)) in
    omega (arith, e, length-append (text_of (take k ls)) (text_of (drop k ls)))

-- what a text begins with stands in its first bytes already
begins_early : (t : List ℕ) (n k number : ℕ) (s : Solution) → most_bytes ≤ n → Begins t k number s → Begins (take n t) k number s
begins_early t n k number s h b =
    let x = text_of (take k (record_as number s)) in
    let few : length x ≤ n = omega (arith, lines_few k (record_as number s), record_most number s b.writable.format b.writable.accepted, h) in
    record { writable = b.writable; lines = b.lines; rest = take (n - length x) b.rest; text = ap (take n) b.text ∙ split x b.rest n few }
  where
    split : (x y : List ℕ) (n : ℕ) → length x ≤ n → take n (x ++ y) ≡ x ++ take (n - length x) y
    split x y n h = let e : n ≡ length x + (n - length x) = omega (arith, h) in ap (λ (i : ℕ). take i (x ++ y)) e ∙ take-append-add x y (n - length x)

-- and the other way round
begins_late : (t : List ℕ) (n k number : ℕ) (s : Solution) → Begins (take n t) k number s → Begins t k number s
begins_late t n k number s b =
    let x = text_of (take k (record_as number s)) in
    record {
      writable = b.writable;
      lines = b.lines;
      rest = b.rest ++ drop n t;
      text = sym (take-append-drop n t) ∙ ap (λ (l : List ℕ). l ++ drop n t) b.text ∙ append_assoc x b.rest (drop n t);
    }

-- a text that is longer than any record is none
too_long : (t : List ℕ) → most_bytes < length t → (number : ℕ) (s : Solution) → Writable number s → text_as number s ≡ t → ⊥
too_long t h number s w e = omega (arith, h, record_most number s w.format w.accepted, ap length e)

-- THE LAW: a text that is longer than any record is refused where its first bytes are, as soon as these are longer than any record
pub longer : (t : List ℕ) (n : ℕ) → most_bytes < n → n ≤ length t → record_in t ≡ record_in (take n t)
longer t n h l = go (record_in (take n t)) refl
  where
    size : length (take n t) ≡ n
    size = length-take-le n t l

    go : (r : Reading) → record_in (take n t) ≡ r → record_in t ≡ r
    go (Reading.Shows format s) e = let w = writes_back (take n t) format s e in absurd (too_long (take n t) (omega (arith, size, h)) format s (record { format = w.format; accepted = w.passed; floats = w.f64 }) w.same)
    go (Reading.WrongAt m) e =
        let f = first_wrong (take n t) m e in
        refused_there t m
        (record {
          before = f.before;
          one_more = f.one_more;
          number = f.number;
          like = f.like;
          right = begins_late t n f.before f.number f.like f.right;
          wrong = λ number s b. f.wrong number s (begins_early t n m number s (omega (arith, h)) b);
          none = too_long t (omega (arith, h, l));
        })
