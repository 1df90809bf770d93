-- Laws of the functions that read a line: the line of a slot stands where its field is read, and nowhere else. Assumes nothing.
use mathlib.Core.Path.{◌≡◌, refl, sym, ap, ◌∙◌}
use mathlib.Core.Bool.{Bool, true, false, cond, ◌&&◌}
use mathlib.Core.List.{List, [], ◌∷◌}
use Prim.Native.Nat.{ℕ, ◌+◌, ◌^◌, ◌≤◌, ◌<◌}
use native.Mathlib.Omega.{arith}
use borrow.Author.Tests.{leb-true, eqb-true, eqb-false}
use lib.Dec.{leb, eqb}
use lib.Ieee.{Float, binary64, of_bits, to_bits}
use lib.Ieee.Bits.{to_bits-lt, of_bits-fits}
use lib.ListN.{drop}
use Rattle.text.specs.Lines.{float_line, decimal_line}
use Rattle.std.proofs.Common.{Result, Ok, Err}
use Rattle.scan_digits.specs.Read.{read_hex, read_decimal}
use Rattle.scan_digits.proofs.Back.{is_same, is_right}
use Rattle.scan.specs.declared.Wrong.{Wrong}
use Rattle.scan.specs.Read.{read_bytes}
use Rattle.scan_fields.specs.Fields.{hex_field, decimal_field}
use Rattle.scan_fields.proofs.Whole.{field_parts, float_line_back, float_line_read, decimal_line_back, decimal_line_read}
use Rattle.record_lines.specs.Table.{Kind, Slot, whole_slot}
use Rattle.record_scan.specs.declared.Spot.{Spot}
use Rattle.record_scan.specs.declared.Line.{Line}
use Rattle.record_scan.specs.Slots.{may_show, line_for, blank_of, whole_at, bits_at, number_at, step_of, found_line, missed_line, read_slot}

-- ---- a step

-- a line that does not stand, or that may not hold its number, is missed
step_missed : (c : Spot) (must : Bool) (blank : ℕ) (ok : Bool) (value : ℕ) (found : Result ℕ Wrong) → ((q : ℕ) → ok ≡ true → found ≡ Ok q → ⊥)
    → step_of c must blank ok value found ≡ missed_line c must blank
step_missed c must blank ok value found = go c.good ok found where
  go : (g o : Bool) (f : Result ℕ Wrong) → ((q : ℕ) → o ≡ true → f ≡ Ok q → ⊥)
      → cond (g && o) (found_line c must blank value f) (missed_line c must blank) ≡ missed_line c must blank
  go true true (Ok q) h = absurd (h q refl refl)
  go true true (Err w) h = refl
  go true false f h = refl
  go false o f h = refl

-- a line that may not hold its number is missed
step_barred : (c : Spot) (must : Bool) (blank value : ℕ) (found : Result ℕ Wrong) → step_of c must blank false value found ≡ missed_line c must blank
step_barred c must blank value found =
    step_missed c must blank false value found (λ q o f. (let z : ◌≡◌ {A = ℕ} 0 1 = cc in omega arith))

-- a step passes one line at most
step_near : (c : Spot) (must : Bool) (blank : ℕ) (ok : Bool) (value : ℕ) (found : Result ℕ Wrong) → (step_of c must blank ok value found).next.line ≤ c.line + 1
step_near c must blank ok value found = go (c.good && ok) found where
  go : (b : Bool) (f : Result ℕ Wrong) → (cond b (found_line c must blank value f) (missed_line c must blank)).next.line ≤ c.line + 1
  go true (Ok p) = omega arith
  go true (Err w) = omega arith
  go false f = omega arith

-- so does the line of a slot
pub slot_near : (k : Slot) (s : List ℕ) (c : Spot) (r : Line) → r ≡ read_slot k s c → (r ≡ read_slot k s c) × (r.next.line ≤ c.line + 1)
unfolding read_slot
slot_near k s c r e =
    let n = number_at k.kind k.name s c.at in
    let found = read_bytes (line_for k.kind k.name n) (drop c.at s) c.at in
    (e, rw e (step_near c k.must (blank_of k.kind) (may_show k.kind n) n found))

-- ---- the line of a float

-- the digits of a field that is read
pub bits_read : (name end s : List ℕ) (p n q : ℕ) → hex_field name end s p ≡ Ok (n, q) → bits_at name s p ≡ n
unfolding hex_field bits_at
bits_read name end s p n q e =
    let f = field_parts name end s (λ (a : ℕ). read_hex 16 (drop a s) a 0) p n q e in
    rw (f.name_is, f.number_is)

-- the bits of a float that was read fit 64 bits
bits_fit : (n : ℕ) → to_bits binary64 (of_bits binary64 n) < 2 ^ 64
bits_fit n = to_bits-lt binary64 (of_bits binary64 n) (of_bits-fits binary64 n)

-- where no field is read, no line stands
pub real_missed : (name s : List ℕ) (must : Bool) (test : Float → Bool) (c : Spot) (w : Wrong) → hex_field name (10 ∷ []) s c.at ≡ Err w
    → missed_line c must 0 ≡ read_slot (record { name = name; kind = Kind.Real test; must = must }) s c
unfolding read_slot
real_missed name s must test c w e =
    let n = bits_at name s c.at in
    let x = of_bits binary64 n in
    let m = to_bits binary64 x in
    sym
    (step_missed c must 0 (test x) n (read_bytes (float_line name m) (drop c.at s) c.at)
    (λ q o f. is_right w.at m q (sym e ∙ float_line_read name s c.at m q (bits_fit n) f)))

-- where a field is read, the line of its float stands if the digits are that float's bits
pub real_found : (name s : List ℕ) (must : Bool) (test : Float → Bool) (c : Spot) (bits next : ℕ) (x : Float) (m : ℕ) (ok : Bool)
    → hex_field name (10 ∷ []) s c.at ≡ Ok (bits, next) → x ≡ of_bits binary64 bits → m ≡ to_bits binary64 x → ok ≡ test x
    → step_of c must 0 (eqb m bits && ok) bits (Ok next) ≡ read_slot (record { name = name; kind = Kind.Real test; must = must }) s c
unfolding read_slot
real_found name s must test c bits next x m ok e ex em eo =
    rw (eo, bits_read name (10 ∷ []) s c.at bits next e, ← ex, ← em) (go (eqb m bits) refl) where
      found : Result ℕ Wrong
      found = read_bytes (float_line name m) (drop c.at s) c.at

      small : m < 2 ^ 64
      small = rw (em, ex) (bits_fit bits)

      go : (b : Bool) → eqb m bits ≡ b → step_of c must 0 (b && test x) bits (Ok next) ≡ step_of c must 0 (test x) bits found
      go true w =
          let k : found ≡ Ok next = rw (eqb-true m bits w) (float_line_back name s c.at bits next e).0 in
          ap (step_of c must 0 (test x) bits) (sym k)
      go false w =
          step_barred c must 0 bits (Ok next)
          ∙ sym (step_missed c must 0 (test x) bits found
          (λ q o f. eqb-false m bits w (is_same m q bits next (sym (float_line_read name s c.at m q small f) ∙ e)).0))

-- ---- the line of a decimal number

-- the number of a field that is read
pub whole_read : (name end s : List ℕ) (p n q : ℕ) → decimal_field name end s p ≡ Ok (n, q) → whole_at name s p ≡ n
unfolding decimal_field whole_at
whole_read name end s p n q e =
    let f = field_parts name end s (λ (a : ℕ). read_decimal (drop a s) a) p n q e in
    rw (f.name_is, f.number_is)

-- a number is from a least to a most
abbrev Between : ℕ → ℕ → ℕ → Type 0
Between least most n = (least ≤ n) × (n ≤ most)

-- a number that passes both tests is from the least to the most
within : (least most n : ℕ) → (leb least n && leb n most) ≡ true → Between least most n
within least most n = go (leb least n) (leb n most) refl refl where
  go : (a b : Bool) → leb least n ≡ a → leb n most ≡ b → (a && b) ≡ true → Between least most n
  go true true ea eb h = (leb-true least n ea, leb-true n most eb)
  go true false ea eb h = let z : ◌≡◌ {A = ℕ} 0 1 = cc in absurd (omega arith)
  go false b ea eb h = let z : ◌≡◌ {A = ℕ} 0 1 = cc in absurd (omega arith)

-- where no field is read, no line of a number up to the most stands
pub whole_missed : (name s : List ℕ) (least most : ℕ) (c : Spot) (w : Wrong) → most < 4294967296 → decimal_field name (10 ∷ []) s c.at ≡ Err w
    → missed_line c true least ≡ read_slot (whole_slot name least most) s c
unfolding read_slot
whole_missed name s least most c w h e =
    let n = whole_at name s c.at in
    sym
    (step_missed c true least (leb least n && leb n most) n (read_bytes (decimal_line name n) (drop c.at s) c.at)
    (λ q o f. is_right w.at n q (sym e ∙ decimal_line_read name s c.at n q (omega (arith, h, (within least most n o).1)) f)))

-- where a field is read, the line of its number stands if the number is up to the most
pub whole_found : (name s : List ℕ) (least most : ℕ) (c : Spot) (n next : ℕ) → most < 4294967296 → decimal_field name (10 ∷ []) s c.at ≡ Ok (n, next)
    → step_of c true least (leb least n && leb n most) n (Ok next) ≡ read_slot (whole_slot name least most) s c
unfolding read_slot
whole_found name s least most c n next h e =
    rw (whole_read name (10 ∷ []) s c.at n next e) (go (leb least n && leb n most) (λ o. (within least most n o).1)) where
      found : Result ℕ Wrong
      found = read_bytes (decimal_line name n) (drop c.at s) c.at

      go : (ok : Bool) → (ok ≡ true → n ≤ most) → step_of c true least ok n (Ok next) ≡ step_of c true least ok n found
      go true w =
          ap (step_of c true least true n) (sym (decimal_line_back name s c.at n next (omega (arith, h, w refl)) e))
      go false w = step_barred c true least n (Ok next) ∙ sym (step_barred c true least n found)

-- what a line of a decimal number gives is from its least to its most
step_in : (c : Spot) (least most n : ℕ) (found : Result ℕ Wrong) → least ≤ most
    → Between least most (step_of c true least (leb least n && leb n most) n found).value
step_in c least most n found h = go c.good (leb least n && leb n most) (within least most n) found where
  go : (g ok : Bool) → (ok ≡ true → Between least most n) → (f : Result ℕ Wrong)
      → Between least most (cond (g && ok) (found_line c true least n f) (missed_line c true least)).value
  go false ok w f = (omega arith, h)
  go true false w f = (omega arith, h)
  go true true w (Ok p) = w refl
  go true true w (Err e) = (omega arith, h)

-- what the line of a slot of decimal numbers gives, whole
pub whole_near : (name s : List ℕ) (least most : ℕ) (c : Spot) (r : Line) → least ≤ most → r ≡ read_slot (whole_slot name least most) s c
    → (r ≡ read_slot (whole_slot name least most) s c) × (r.next.line ≤ c.line + 1) × (least ≤ r.value) × (r.value ≤ most)
unfolding read_slot
whole_near name s least most c r h e =
    let n = whole_at name s c.at in
    let w = step_in c least most n (read_bytes (decimal_line name n) (drop c.at s) c.at) h in
    (e, (slot_near (whole_slot name least most) s c r e).1, rw e w.0, rw e w.1)
