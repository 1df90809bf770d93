-- The bytes of a mask, one row at a time. Assumes nothing.
use mathlib.Core.Path.{◌≡◌, refl, sym, ap, ◌∙◌}
use mathlib.Core.List.{List, [], ◌∷◌, ◌++◌, append_assoc}
use mathlib.Core.Bool.{Bool, true, false}
use Prim.Native.Nat.{ℕ, zero, suc, ◌+◌, ◌≤◌, ◌<◌}
use native.Mathlib.Nat.{zero-add, add_assoc, le_refl}
use native.Mathlib.Numerals.{add-one}
use native.Mathlib.Omega.{arith}
use lib.Dec.{eqb}
use lib.ListN.{length, get_or, drop, set, length-append}
use lib.Seq.{drop-cons, set_at}
use Rattle.cd_mask.specs.Marks.{byte_of, ones, marks}

-- ---- a byte
pub byte_le : (b : Bool) → byte_of b ≤ 1
byte_le true = le_refl 1
byte_le false = omega arith

-- a number that is a byte of a mask is one or zero
pub byte_small : {r : ℕ} (b : Bool) → r ≡ byte_of b → r ≤ 1
byte_small b e = omega (arith, e, byte_le b)

ones_byte : (b : Bool) → ones (byte_of b ∷ []) ≡ byte_of b
unfolding ones
ones_byte true = refl
ones_byte false = refl

-- ---- how many are one
pub ones_append : (a b : List ℕ) → ones (a ++ b) ≡ ones a + ones b
unfolding ones
ones_append [] b = sym (zero-add (ones b))
ones_append (x ∷ a) b = ap (λ n. byte_of (eqb x 1) + n) (ones_append a b) ∙ sym (add_assoc _ (ones a) (ones b))

-- at most how many there are
pub ones_few : (bs : List ℕ) → ones bs ≤ length bs
unfolding ones
ones_few [] = le_refl 0
ones_few (b ∷ bs) = omega (arith, byte_le (eqb b 1), ones_few bs)

-- those from the place i on
pub ones_at : (bs : List ℕ) (i : ℕ) → i < length bs → ones (drop i bs) ≡ byte_of (eqb (get_or bs i 0) 1) + ones (drop (i + 1) bs)
unfolding ones
ones_at bs i h = rw (add-one, drop-cons bs i 0)

-- ---- the bytes of a test
module _ (on : ℕ → Bool) where
  pub marks_one : (n : ℕ) → marks on (n + 1) ≡ marks on n ++ (byte_of (on n) ∷ [])
  unfolding marks
  marks_one n = rw add-one

  pub length_marks : (n : ℕ) → length (marks on n) ≡ n
  unfolding marks
  length_marks zero = refl
  length_marks (suc n) = simp length-append (omega (arith, length_marks n))

  pub ones_one : (n : ℕ) → ones (marks on (n + 1)) ≡ ones (marks on n) + byte_of (on n)
  ones_one n = rw (marks_one, ones_append, ones_byte)

  pub ones_le : (n : ℕ) → ones (marks on n) ≤ n
  unfolding marks ones
  ones_le zero = le_refl 0
  ones_le (suc n) = omega (arith, ones_append (marks on n) (byte_of (on n) ∷ []), ones_byte (on n), byte_le (on n), ones_le n)

  -- one more byte stored
  pub mark_turn : (d : List ℕ) (i : ℕ) → i < length d → set (marks on i ++ drop i d) i (byte_of (on i)) ≡ marks on (i + 1) ++ drop (i + 1) d
  mark_turn d i h =
      rw (drop-cons d i 0 h, set_at (marks on i) (get_or d i 0) (drop (suc i) d) (byte_of (on i)) i (length_marks i), marks_one, append_assoc, add-one)
