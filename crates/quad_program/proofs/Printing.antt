-- Laws of the lines that are printed: how long they are at most, and one quad after another.
use mathlib.Core.Path.{◌≡◌, refl}
use mathlib.Core.Bool.{Bool, true, false}
use mathlib.Core.List.{List, [], ◌++◌}
use Prim.Native.Nat.{ℕ, zero, suc, ◌+◌, ◌-◌, ◌*◌, ◌/◌, ◌≤◌, ◌<◌}
use native.Mathlib.Nat.{add-zero}
use native.Mathlib.Omega.{arith}
use borrow.Author.Tests.{ltb-true, ltb-false}
use lib.Dec.{ltb}
use lib.ListN.{length, get_or, drop, length-append, length-drop, get_or-append}
use lib.Seq.{get_or-drop, drop-drop, drop-append-le}
use lib.Ieee.{Float, nan}
use Rattle.digits.specs.Digits.{hex_from, decimal_of}
use Rattle.text.specs.Lines.{decimal_line}
use Rattle.digits.proofs.Hex.{length_hex}
use Rattle.digits.proofs.Decimal.{length_decimal_one, length_decimal_more, length_decimal_most}
use Rattle.text.proofs.Lines.{length_decimal_line}
use Rattle.quad_key.specs.Key.{key_of}
use Rattle.quad_program.specs.Form.{comma, newline}
use Rattle.quad_program.specs.Print.{status_name, quads_name, quad_name, key_name, numbered, places_line, key_line, quad_lines, all_lines, status_line}

-- ---- how long a line is

-- a number below 100 has at most two digits
two_digits : (n : ℕ) → n < 100 → length (decimal_of n) ≤ 2
two_digits n h = go (ltb n 10) refl where
  go : (b : Bool) → ltb n 10 ≡ b → length (decimal_of n) ≤ 2
  go true e = omega (arith, length_decimal_one n (ltb-true n 10 e))
  go false e = omega (arith, length_decimal_more n (ltb-false n 10 e) (omega arith), length_decimal_one (n / 10) (omega arith))

-- a byte has at most three
three_digits : (n : ℕ) → n < 256 → length (decimal_of n) ≤ 3
three_digits n h = go (ltb n 100) refl where
  go : (b : Bool) → ltb n 100 ≡ b → length (decimal_of n) ≤ 3
  go true e = omega (arith, two_digits n (ltb-true n 100 e))
  go false e =
      let t : 100 ≤ n = ltb-false n 100 e in
      omega (arith, length_decimal_more n (omega arith) (omega arith), two_digits (n / 10) (omega arith))

-- a byte after a text
numbered_short : (t : List ℕ) (n : ℕ) → n < 256 → length (numbered t n) ≤ length t + 3
unfolding numbered
numbered_short t n h = omega (arith, length-append t (decimal_of n), three_digits n h)

-- the line of four places
pub places_short : (a b c d : ℕ) → a < 256 → b < 256 → c < 256 → d < 256 → length (places_line a b c d) ≤ 21
unfolding places_line
places_short a b c d ha hb hc hd =
    omega (
      arith,
      length-append (numbered quad_name a) (numbered comma b ++ (numbered comma c ++ decimal_line comma d)),
      length-append (numbered comma b) (numbered comma c ++ decimal_line comma d),
      length-append (numbered comma c) (decimal_line comma d),
      numbered_short quad_name a ha,
      numbered_short comma b hb,
      numbered_short comma c hc,
      length_decimal_line comma d,
      three_digits d hd,
    )

-- the line of a key
pub key_long : (key : ℕ) → length (key_line key) ≡ 21
unfolding key_line
key_long key = omega (arith, length-append key_name (hex_from 16 key ++ newline), length-append (hex_from 16 key) newline, length_hex 16 key)

-- the line of an answer's number
pub status_short : (n : ℕ) → length (status_line n) ≤ 28
unfolding status_line
status_short n = omega (arith, length_decimal_line status_name n, length_decimal_most n)

-- the line of the count
pub count_short : (n : ℕ) → length (decimal_line quads_name n) ≤ 27
count_short n = omega (arith, length_decimal_line quads_name n, length_decimal_most n)

-- ---- one quad after another

-- the quad at j of two lists is the first of what is left from j on
pub quad_at : (ps : List ℕ) (hs : List Float) (j key : ℕ)
    → key ≡ key_of (record { h0 = get_or hs j nan; h1 = get_or hs (j + 1) nan; h2 = get_or hs (j + 2) nan; h3 = get_or hs (j + 3) nan })
    → places_line (get_or ps j 0) (get_or ps (j + 1) 0) (get_or ps (j + 2) 0) (get_or ps (j + 3) 0) ++ key_line key
    ≡ quad_lines (drop j ps) (drop j hs)
unfolding quad_lines
quad_at ps hs j key e = rw e (simp (get_or-drop, add-zero))

-- at the start all quads are left
pub lines_start : (n : ℕ) (ps : List ℕ) (hs : List Float) → all_lines n ps hs ≡ all_lines (n - 0) (drop (4 * 0) ps) (drop (4 * 0) hs)
lines_start n ps hs = let k : n - 0 ≡ n = omega arith in rw k

-- a quad is left
pub lines_more : (n i : ℕ) (ps : List ℕ) (hs : List Float) → i < n
    → all_lines (n - i) (drop (4 * i) ps) (drop (4 * i) hs)
    ≡ quad_lines (drop (4 * i) ps) (drop (4 * i) hs) ++ all_lines (n - (i + 1)) (drop (4 * (i + 1)) ps) (drop (4 * (i + 1)) hs)
unfolding all_lines
lines_more n i ps hs h =
    let k : n - i ≡ suc (n - (i + 1)) = omega arith in
    let e : 4 * (i + 1) ≡ 4 * i + 4 = omega arith in
    rw (k, e, drop-drop 4 (4 * i) ps, drop-drop 4 (4 * i) hs)

-- none is left
pub lines_none : (n i : ℕ) (ps : List ℕ) (hs : List Float) → n ≤ i → all_lines (n - i) ps hs ≡ []
unfolding all_lines
lines_none n i ps hs h = let k : n - i ≡ 0 = omega arith in rw k

-- what stands in two lists after n quads is not printed
pub lines_front : (n : ℕ) (ps qs : List ℕ) (hs gs : List Float) → 4 * n ≤ length ps → 4 * n ≤ length hs → all_lines n (ps ++ qs) (hs ++ gs) ≡ all_lines n ps hs
unfolding all_lines quad_lines
lines_front zero ps qs hs gs p h = refl
lines_front (suc n) ps qs hs gs p h =
    let a : (i : ℕ) → i < 4 → get_or (ps ++ qs) i 0 ≡ get_or ps i 0 = λ (i : ℕ) (l : i < 4). get_or-append ps qs 0 i (omega arith) in
    let b : (i : ℕ) → i < 4 → get_or (hs ++ gs) i nan ≡ get_or hs i nan = λ (i : ℕ) (l : i < 4). get_or-append hs gs nan i (omega arith) in
    rw (
      a 0 (omega arith),
      a 1 (omega arith),
      a 2 (omega arith),
      a 3 (omega arith),
      b 0 (omega arith),
      b 1 (omega arith),
      b 2 (omega arith),
      b 3 (omega arith),
      drop-append-le 4 ps qs (omega arith),
      drop-append-le 4 hs gs (omega arith),
      lines_front n (drop 4 ps) qs (drop 4 hs) gs (omega (arith, length-drop 4 ps)) (omega (arith, length-drop 4 hs)),
    )
