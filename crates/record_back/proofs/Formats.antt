-- A text of another format is wrong at its first line: for this reader, and for one that knows fewer formats. Assumes nothing.
use mathlib.Core.Path.{◌≡◌, refl, sym, ap, ◌∙◌}
use mathlib.Core.Bool.{Bool, true, false, cond, ◌&&◌}
use mathlib.Core.List.{List, [], ◌∷◌, ◌++◌, append_assoc}
use Prim.Native.Nat.{ℕ, ◌^◌, ◌≤◌, ◌<◌}
use native.Mathlib.Omega.{arith}
use borrow.Author.Tests.{lt-leb, leb-true}
use lib.Dec.{ltb, leb}
use lib.ListN.{take, drop}
use Rattle.digits.specs.Digits.{decimal_of}
use Rattle.text.specs.Lines.{decimal_line}
use Rattle.scan.proofs.Round.{text_read}
use Rattle.scan_digits.specs.Read.{decimal_value, held}
use Rattle.scan_digits.proofs.Round.{decimal_held, held_small}
use Rattle.record_format.specs.Formats.{newest_format, is_format}
use Rattle.record_lines.specs.Names.{format_name}
use Rattle.record_lines.specs.Lines.{Solution, text_of}
use Rattle.record_lines.specs.Table.{Kind, Slot, whole_slot, lines_of, lines_as, record_as}
use Rattle.record.specs.Record.{text_as, record_text}
use Rattle.record_scan.specs.declared.Spot.{Spot}
use Rattle.record_scan.specs.Slots.{whole_at, missed_line, read_slot, read_slots}
use Rattle.record_reader.specs.Reading.{start_spot, format_in, read_parts, solution_from, Reading, record_in}
use Rattle.record_back.proofs.Line.{value_read}
use Rattle.record_back.proofs.Slots.{false_and, stuck}
use Rattle.record_back.proofs.Tests.{both}
use Rattle.record_back.proofs.Back.{is_read}
use Rattle.record_back.proofs.Same.{start_says, passes, solution_f64}
use Rattle.record_back.proofs.Only.{refused_there}

-- ---- the first line of a record

first_line : (number : ℕ) (s : Solution) → record_as number s ≡ decimal_line format_name number ∷ drop 1 (record_as number s)
unfolding lines_as lines_of
first_line number s = refl

text_first : (number : ℕ) (s : Solution) → text_as number s ≡ decimal_line format_name number ++ text_of (drop 1 (record_as number s))
unfolding text_of
text_first number s = ap text_of (first_line number s)

-- the first line alone
one_line : (number : ℕ) (s : Solution) (ys : List ℕ) → text_of (take 1 (record_as number s)) ++ ys ≡ decimal_line format_name number ++ ys
unfolding text_of
one_line number s ys =
    ap (λ (ls : List (List ℕ)). text_of (take 1 ls) ++ ys) (first_line number s) ∙ append_assoc (decimal_line format_name number) [] ys

-- ---- this reader

-- THE LAW: a text whose first line is that of no format is wrong at it
pub other_first : (t : List ℕ) → ((number : ℕ) (ys : List ℕ) → is_format number ≡ true → t ≡ decimal_line format_name number ++ ys → ⊥) → record_in t ≡ Reading.WrongAt 1
unfolding text_of
other_first t none =
    let p = read_parts t in
    let r = is_read t in
    refused_there t 1
    (record {
      before = 0;
      one_more = refl;
      number = format_in p.start;
      like = solution_from p;
      right = record { writable = record { format = (start_says t p r).0; accepted = passes t p r; floats = solution_f64 p }; lines = omega arith; rest = t; text = refl };
      wrong = λ number s b. none number b.rest b.writable.format (b.text ∙ one_line number s b.rest);
      none = λ number s w e. none number (text_of (drop 1 (record_as number s))) w.format (sym e ∙ text_first number s);
    })

-- the number that stands in a format line
line_number : (n : ℕ) (ys : List ℕ) → n < 2 ^ 64 → whole_at format_name (decimal_line format_name n ++ ys) 0 ≡ held n
unfolding whole_at decimal_line decimal_value
line_number n ys h =
    let D = decimal_of n in
    let e : (format_name ++ (D ++ (10 ∷ []))) ++ ys ≡ format_name ++ (D ++ (10 ∷ ys)) =
    append_assoc format_name (D ++ (10 ∷ [])) ys ∙ ap (λ (l : List ℕ). format_name ++ l) (append_assoc D (10 ∷ []) ys) in
    rw (e, text_read format_name (D ++ (10 ∷ ys)) 0, decimal_held n 10 7 ys h refl) refl

-- a number that is held is a format's only where it is one itself
held_format : (n : ℕ) → is_format (held n) ≡ true → is_format n ≡ true
held_format n e = go (ltb 4294967296 n) refl e
  where
    go : (b : Bool) → ltb 4294967296 n ≡ b → is_format (cond b 4294967296 n) ≡ true → is_format n ≡ true
    go true w k = let z : ◌≡◌ {A = ℕ} 0 1 = cc in absurd (omega arith)
    go false w k = k

-- THE LAW: a format line with any other number of 64 bits is wrong at line 1
pub other_number : (n : ℕ) (ys : List ℕ) → n < 2 ^ 64 → is_format n ≡ false → record_in (decimal_line format_name n ++ ys) ≡ Reading.WrongAt 1
other_number n ys h not = other_first (decimal_line format_name n ++ ys) (λ number zs known e. clash (held_format n (rw (number_of number zs known e) known)))
  where
    number_of : (number : ℕ) (zs : List ℕ) → is_format number ≡ true → decimal_line format_name n ++ ys ≡ decimal_line format_name number ++ zs → held n ≡ number
    number_of number zs known e =
        let few : number ≤ 2 = leb-true number newest_format (both (leb 1 number) (leb number newest_format) known).1 in
        sym (line_number n ys h) ∙ ap (λ (l : List ℕ). whole_at format_name l 0) e ∙ line_number number zs (omega (arith, few)) ∙ held_small number (omega (arith, few))

    clash : is_format n ≡ true → ⊥
    clash w = let z : true ≡ false = sym w ∙ not in let q : ◌≡◌ {A = ℕ} 0 1 = cc in omega arith

-- ---- a reader that knows the formats up to one, whatever its other lines are

-- THE LAW: it refuses a record of a later format at line 1
pub older_refuses : (most number : ℕ) (ks : List Slot) (s : Solution) → most < number → number ≤ 4294967296
    → (read_slots (whole_slot format_name 1 most ∷ ks) (text_as number s) start_spot).next ≡ record { at = 0; line = 1; good = false }
unfolding read_slots read_slot
older_refuses most number ks s h few =
    let wrong : Spot = record { at = 0; line = 1; good = false } in
    rw (missed (text_as number s) (text_of (drop 1 (record_as number s))) (text_first number s)) (stuck ks (text_as number s) wrong refl)
  where
    missed : (t ys : List ℕ) → t ≡ decimal_line format_name number ++ ys → read_slot (whole_slot format_name 1 most) t start_spot ≡ missed_line start_spot true 1
    missed t ys e =
        let late : (leb 1 number && leb number most) ≡ false = false_and (leb 1 number) (leb number most) (lt-leb number most h) in
        rw (value_read (Kind.Whole 1 most) format_name t 0 number ys few e, late) refl

-- so a reader of format 1 alone refuses what is written now
pub first_refuses : (ks : List Slot) (s : Solution) → (read_slots (whole_slot format_name 1 1 ∷ ks) (record_text s) start_spot).next ≡ record { at = 0; line = 1; good = false }
first_refuses ks s = older_refuses 1 newest_format ks s (omega arith) (omega arith)
