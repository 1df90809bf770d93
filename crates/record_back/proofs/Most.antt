-- No record has more than `most_bytes` bytes, so a caller who lends so many is never refused for room. Assumes nothing.
use Rattle.answer.specs.declared.Refusal.{Refusal}
use Rattle.std.specs.Prelude.{Result, Ok, Err}
use mathlib.Core.Path.{◌≡◌, refl}
use mathlib.Core.Bool.{Bool, true, false, cond, and-eq-true_iff}
use mathlib.Core.List.{List, [], ◌∷◌}
use Prim.Native.Nat.{ℕ, ◌+◌, ◌*◌, ◌/◌, ◌≤◌, ◌<◌}
use native.Mathlib.Omega.{arith}
use lib.Dec.{ltb, leb}
use lib.ListN.{length}
use lib.Ieee.{Float}
use borrow.Author.Tests.{ltb-true, ltb-false, leb-true, le-ltb}
use Rattle.digits.specs.Digits.{decimal_of}
use Rattle.digits.proofs.Decimal.{length_decimal_one, length_decimal_more}
use Rattle.answer.specs.Answers.{first, room_for}
use Rattle.sip_terms.specs.Terms.{is_kept}
use Rattle.record_lines.specs.Lines.{Solution}
use Rattle.record_format.specs.Formats.{newest_format, is_format}
use Rattle.record.specs.Record.{text_as, record_text, input_answer, Passed, record_done, terms_size}
use Rattle.record.proofs.Laws.{checked, record_size_lem}
use Rattle.record_back.specs.Shown.{most_bytes}

-- 0 to 100 have at most three digits
pub three_digits : (n : ℕ) → n ≤ 100 → length (decimal_of n) ≤ 3
three_digits n h = go (ltb n 10) refl
  where
    low : (m : ℕ) → m < 10 → length (decimal_of m) ≤ 1
    low m g = omega (arith, length_decimal_one m g)

    two : (m : ℕ) → m ≤ 10 → length (decimal_of m) ≤ 2
    two m g = at (ltb m 10) refl
      where
        at : (b : Bool) → ltb m 10 ≡ b → length (decimal_of m) ≤ 2
        at true e = omega (arith, low m (ltb-true m 10 e))
        at false e = omega (arith, length_decimal_more m (ltb-false m 10 e) (omega arith), low (m / 10) (omega arith))

    go : (b : Bool) → ltb n 10 ≡ b → length (decimal_of n) ≤ 3
    go true e = omega (arith, low n (ltb-true n 10 e))
    go false e = omega (arith, length_decimal_more n (ltb-false n 10 e) (omega arith), two (n / 10) (omega arith))

-- each coefficient has at most 23 bytes
terms_most : (cs : List Float) → terms_size cs ≤ 23 * length cs
unfolding terms_size
terms_most [] = omega arith
terms_most (c ∷ cs) = go (is_kept c) (terms_most cs)
  where
    go : (b : Bool) → terms_size cs ≤ 23 * length cs → cond b 23 0 + terms_size cs ≤ 23 * length (c ∷ cs)
    go true h = omega (arith, h)
    go false h = omega (arith, h)

pub record_most : (number : ℕ) (s : Solution) → is_format number ≡ true → Passed s → length (text_as number s) ≤ most_bytes
record_most number s known p =
    let few : number < 10 = omega (arith, leb-true number newest_format ((and-eq-true_iff (leb 1 number) (leb number newest_format)).0 known).1) in
    let k = checked s.fit s.wcs s.order (length s.a) (length s.b) p in
    omega (arith, record_size_lem number s few p, three_digits s.fit.rows_used k.few_rows, terms_most s.a, terms_most s.b, k.few_a, k.few_b)

-- with so much room the tests of the input decide alone
pub room_enough : (s : Solution) (room : ℕ) → most_bytes ≤ room → record_done s room ≡ input_answer s.fit s.wcs s.order (length s.a) (length s.b)
room_enough s room h = go (input_answer s.fit s.wcs s.order (length s.a) (length s.b)) (record_most newest_format s refl)
  where
    go : (a : Result Unit Refusal) → (a ≡ Ok tt → length (record_text s) ≤ most_bytes) → first a (room_for (length (record_text s)) room) ≡ a
    go (Ok tt) m = rw (le-ltb room (length (record_text s)) (omega (arith, h, m refl)))
    go (Err why) m = refl
