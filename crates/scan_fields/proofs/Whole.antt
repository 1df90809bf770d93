-- A field is read exactly where its name, its number as it is written, and its end stand; with a newline at its end it is a line. Assumes nothing.
use mathlib.Core.Path.{◌≡◌, refl, sym, ap, ◌∙◌}
use mathlib.Core.List.{List, [], ◌∷◌, ◌++◌}
use Prim.Native.Nat.{ℕ, ◌+◌, ◌^◌, ◌≤◌, ◌<◌}
use native.Mathlib.Omega.{arith}
use lib.ListN.{length, drop}
use Rattle.digits.specs.Digits.{hex_from, decimal_of}
use Rattle.digits.proofs.Hex.{length_hex}
use Rattle.text.specs.Lines.{float_line, decimal_line}
use Rattle.std.proofs.Common.{Result, Ok, Err}
use Rattle.scan_digits.specs.Read.{Number, read_hex, decimal_value, read_decimal}
use Rattle.scan_digits.proofs.Round.{hex16_read, decimal_read}
use Rattle.scan_digits.proofs.Back.{is_same, is_right, hex16_back, decimal_back}
use Rattle.scan.specs.declared.Wrong.{Wrong}
use Rattle.scan.specs.Read.{read_bytes}
use Rattle.scan.proofs.Back.{Stands, starts_stands, read_stands, stands_read, stands_both, stands_parts}
use Rattle.scan_fields.specs.Fields.{after_text, ended_at, before_text, hex_field, decimal_field}

-- ---- the parts of a field

-- a name up to a place, a number from there up to another, and an end from there up to q
pub record Parts (name end s : List ℕ) (read : ℕ → Number) (p n q : ℕ) : Type 0 where
  pub name_end : ℕ
  pub number_end : ℕ
  pub name_is : read_bytes name (drop p s) p ≡ Ok name_end
  pub number_is : read name_end ≡ Ok (n, number_end)
  pub end_is : read_bytes end (drop number_end s) number_end ≡ Ok q

-- a field that is read has these parts
pub field_parts : (name end s : List ℕ) (read : ℕ → Number) (p n q : ℕ)
    → before_text (after_text (read_bytes name (drop p s) p) read) (λ (b : ℕ). read_bytes end (drop b s) b) ≡ Ok (n, q)
    → Parts name end s read p n q
field_parts name end s read p n q = from_name (read_bytes name (drop p s) p) refl where
  from_end : (a b m : ℕ) (f : Result ℕ Wrong) → read_bytes name (drop p s) p ≡ Ok a → read a ≡ Ok (m, b) → read_bytes end (drop b s) b ≡ f
      → ended_at m f ≡ Ok (n, q) → Parts name end s read p n q
  from_end a b m (Ok r) ea eb ef e =
      let h = is_same m r n q e in
      record {
        name_end = a;
        number_end = b;
        name_is = ea;
        number_is = eb ∙ ap (λ (v : ℕ). Ok (v, b)) h.0;
        end_is = ef ∙ ap Ok h.1;
      }
  from_end a b m (Err w) ea eb ef e = absurd (is_right w.at n q e)

  from_number : (a : ℕ) (g : Number) → read_bytes name (drop p s) p ≡ Ok a → read a ≡ g
      → before_text g (λ (b : ℕ). read_bytes end (drop b s) b) ≡ Ok (n, q) → Parts name end s read p n q
  from_number a (Ok (m, b)) ea eb e = from_end a b m (read_bytes end (drop b s) b) ea eb refl e
  from_number a (Err w) ea eb e = absurd (is_right w.at n q e)

  from_name : (f : Result ℕ Wrong) → read_bytes name (drop p s) p ≡ f
      → before_text (after_text f read) (λ (b : ℕ). read_bytes end (drop b s) b) ≡ Ok (n, q) → Parts name end s read p n q
  from_name (Ok a) ea e = from_number a (read a) ea refl e
  from_name (Err w) ea e = absurd (is_right w.at n q e)

-- a name, a number's text and an end are read one after the other
text_parts : (name u end s : List ℕ) (read : ℕ → Number) (p n q : ℕ)
    → ((a b : ℕ) → read a ≡ Ok (n, b) → Stands u s a b) → Parts name end s read p n q
    → read_bytes (name ++ (u ++ end)) (drop p s) p ≡ Ok q
text_parts name u end s read p n q number f =
    let a = f.name_end in
    let b = f.number_end in
    let h = stands_both u end s a b q (number a b f.number_is) (read_stands end s b q f.end_is) in
    stands_read (name ++ (u ++ end)) s p q (stands_both name (u ++ end) s p a q (read_stands name s p a f.name_is) h)

-- a text of a name, a number and an end has these parts
parts_text : (name u end s : List ℕ) (read : ℕ → Number) (p n q : ℕ)
    → ((a b : ℕ) → Stands u s a b → Stands end s b q → read a ≡ Ok (n, b)) → read_bytes (name ++ (u ++ end)) (drop p s) p ≡ Ok q
    → before_text (after_text (read_bytes name (drop p s) p) read) (λ (b : ℕ). read_bytes end (drop b s) b) ≡ Ok (n, q)
parts_text name u end s read p n q number e =
    let h = stands_parts name (u ++ end) s p q (read_stands (name ++ (u ++ end)) s p q e) in
    let a = p + length name in
    let g = stands_parts u end s a q h.1 in
    rw (stands_read name s p a h.0, number a (a + length u) g.0 g.1, stands_read end s (a + length u) q g.1)

-- ---- 16 hexadecimal digits

-- digits that are read are those of the number
hex_stands : (s : List ℕ) (n a b : ℕ) → read_hex 16 (drop a s) a 0 ≡ Ok (n, b) → Stands (hex_from 16 n) s a b
hex_stands s n a b e =
    let h = hex16_back (drop a s) a n b e in
    let k = length_hex 16 n in
    starts_stands (hex_from 16 n) s a b (rw k (h.0, h.2))

-- a field that is read is its name, the digits of a number of 64 bits, and its end
pub hex_field_back : (name end s : List ℕ) (p n q : ℕ) → hex_field name end s p ≡ Ok (n, q)
    → (read_bytes (name ++ (hex_from 16 n ++ end)) (drop p s) p ≡ Ok q) × (n < 2 ^ 64)
unfolding hex_field
hex_field_back name end s p n q e =
    let read : ℕ → Number = λ (a : ℕ). read_hex 16 (drop a s) a 0 in
    let f = field_parts name end s read p n q e in
    (text_parts name (hex_from 16 n) end s read p n q (hex_stands s n) f, (hex16_back (drop f.name_end s) f.name_end n f.number_end f.number_is).1)

-- a name, the digits of a number of 64 bits and an end are read
pub hex_field_read : (name end s : List ℕ) (p n q : ℕ) → n < 2 ^ 64 → read_bytes (name ++ (hex_from 16 n ++ end)) (drop p s) p ≡ Ok q
    → hex_field name end s p ≡ Ok (n, q)
unfolding hex_field
hex_field_read name end s p n q h =
    parts_text name (hex_from 16 n) end s (λ (a : ℕ). read_hex 16 (drop a s) a 0) p n q (λ a b w v. there a b w) where
      there : (a b : ℕ) → Stands (hex_from 16 n) s a b → read_hex 16 (drop a s) a 0 ≡ Ok (n, b)
      there a b w =
          let k : a + 16 ≡ b = omega (arith, w.1, length_hex 16 n) in
          rw w.0 (hex16_read n (drop b s) a h ∙ ap (λ (i : ℕ). Ok (n, i)) k)

-- ---- a decimal number

-- a field that is read, with a number below 2 ^ 32, is its name, the digits of that number, and its end
pub decimal_field_back : (name end s : List ℕ) (p n q : ℕ) → n < 4294967296 → decimal_field name end s p ≡ Ok (n, q)
    → read_bytes (name ++ (decimal_of n ++ end)) (drop p s) p ≡ Ok q
unfolding decimal_field
decimal_field_back name end s p n q h e =
    let read : ℕ → Number = λ (a : ℕ). read_decimal (drop a s) a in
    text_parts name (decimal_of n) end s read p n q (λ a b w. starts_stands (decimal_of n) s a b (decimal_back (drop a s) a n b w h))
    (field_parts name end s read p n q e)

-- a name, the digits of a number up to 2 ^ 32 and an end that starts with no digit are read
pub decimal_field_read : (name : List ℕ) (c : ℕ) (cs s : List ℕ) (p n q : ℕ) → decimal_value c ≡ 10 → n ≤ 4294967296
    → read_bytes (name ++ (decimal_of n ++ (c ∷ cs))) (drop p s) p ≡ Ok q → decimal_field name (c ∷ cs) s p ≡ Ok (n, q)
unfolding decimal_field
decimal_field_read name c cs s p n q v h =
    parts_text name (decimal_of n) (c ∷ cs) s (λ (a : ℕ). read_decimal (drop a s) a) p n q there where
      there : (a b : ℕ) → Stands (decimal_of n) s a b → Stands (c ∷ cs) s b q → read_decimal (drop a s) a ≡ Ok (n, b)
      there a b w u = rw (w.0, u.0) (decimal_read n c a (cs ++ drop q s) h v ∙ ap (λ (i : ℕ). Ok (n, i)) (sym w.1))

-- ---- the writer's lines

-- a field that ends its line is the writer's line for a number of 64 bits
pub float_line_back : (name s : List ℕ) (p n q : ℕ) → hex_field name (10 ∷ []) s p ≡ Ok (n, q)
    → (read_bytes (float_line name n) (drop p s) p ≡ Ok q) × (n < 2 ^ 64)
unfolding float_line
float_line_back name s p n q e = hex_field_back name (10 ∷ []) s p n q e

-- the writer's line for a number of 64 bits is read
pub float_line_read : (name s : List ℕ) (p n q : ℕ) → n < 2 ^ 64 → read_bytes (float_line name n) (drop p s) p ≡ Ok q
    → hex_field name (10 ∷ []) s p ≡ Ok (n, q)
unfolding float_line
float_line_read name s p n q h e = hex_field_read name (10 ∷ []) s p n q h e

-- a decimal field that ends its line is the writer's line for a number below 2 ^ 32
pub decimal_line_back : (name s : List ℕ) (p n q : ℕ) → n < 4294967296 → decimal_field name (10 ∷ []) s p ≡ Ok (n, q)
    → read_bytes (decimal_line name n) (drop p s) p ≡ Ok q
unfolding decimal_line
decimal_line_back name s p n q h e = decimal_field_back name (10 ∷ []) s p n q h e

-- the writer's line for a number up to 2 ^ 32 is read
pub decimal_line_read : (name s : List ℕ) (p n q : ℕ) → n ≤ 4294967296 → read_bytes (decimal_line name n) (drop p s) p ≡ Ok q
    → decimal_field name (10 ∷ []) s p ≡ Ok (n, q)
unfolding decimal_line decimal_value
decimal_line_read name s p n q h e = decimal_field_read name 10 [] s p n q refl h e
