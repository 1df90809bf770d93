-- The two loops over the rows of a round, one row at a time: the first sums, the second rejects. Assumes nothing.
use mathlib.Core.Path.{◌≡◌, refl, sym, ap, ◌∙◌}
use mathlib.Core.Bool.{Bool, false, cond, ◌&&◌, ◌||◌}
use mathlib.Core.List.{List}
use Prim.Native.Nat.{ℕ, ◌+◌, ◌≤◌, ◌<◌}
use native.Mathlib.Nat.{le_refl, zero-add, add-zero}
use native.Mathlib.Numerals.{add-one}
use native.Mathlib.Omega.{arith}
use lib.Dec.{eqb}
use lib.ListN.{length, get_or, set, drop, drop_of_length-le}
use lib.Ieee.{Float, nan, lt}
use Rattle.floats.specs.Rounded.{◌⊕◌, ◌⊗◌}
use Rattle.rows.specs.Rows.{Rows, row_at, count}
use Rattle.cd_plate.specs.declared.Inverse.{Inverse}
use Rattle.cd_plate.specs.Plate.{nothing, error_of}
use Rattle.cd_plate.specs.Masked.{is_on}
use Rattle.cd_plate.specs.Errors.{error_at, errors_of}
use Rattle.cd_plate.specs.Filled.{filled}
use Rattle.cd_plate.proofs.Filling.{Front, filled_length, filled_at, start, again, next_old, whole}
use Rattle.cd_mask.specs.Marks.{byte_of, ones}
use Rattle.cd_mask.proofs.Marking.{byte_le, ones_append, ones_few, ones_at}
use Rattle.cd_round.specs.declared.Clip.{Clip}
use Rattle.cd_round.specs.Round.{squares_to, is_rejected, any_rejected, byte_left, mask_left}

-- ---- the first loop

-- after i rows: their errors stand in the list, and those that are on are summed and counted
pub record Summed (r : Rows) (ws : List Float) (mask : List ℕ) (v : Inverse) (old errors : List Float) (sum : Float) (on i : ℕ) : Type 0 where
  pub front : Front (error_at r mask v) old errors i
  pub sum_is : sum ≡ squares_to (errors_of r mask v) ws mask i
  pub on_is : on + ones (drop i mask) ≡ ones mask
  pub on_few : on ≤ i

module _ (r : Rows) (ws : List Float) (mask : List ℕ) (v : Inverse) (old : List Float) where
  -- before the first row
  pub sum_none : Summed r ws mask v old old nothing 0 0
  unfolding squares_to
  sum_none = record { front = start; sum_is = refl; on_is = zero-add (ones mask); on_few = le_refl 0 }

  -- a row more: its error e, the sum with it, and one where it is on
  pub sum_next : (errors : List Float) (sum : Float) (on i : ℕ) (e more : Float) (one : ℕ) → Summed r ws mask v old errors sum on i
      → i < count r → length mask ≡ count r → length old ≡ count r
      → e ≡ cond (is_on mask i) (error_of v (row_at r i)) nothing → more ≡ cond (is_on mask i) (sum ⊕ get_or ws i nan ⊗ e ⊗ e) sum → one ≡ byte_of (is_on mask i)
      → Summed r ws mask v old (set errors i e) more (on + one) (i + 1)
  unfolding squares_to
  sum_next errors sum on i e more one s h lm lo e-is more-is one_is = record {
    front = again e s.front (omega (arith, lo)) e-is;
    sum_is = rw (add-one i, filled_at (error_at r mask v) (count r) i nan h, ← e-is, ← s.sum_is) more-is;
    on_is = omega (arith, one_is, s.on_is, ones_at mask i (omega (arith, lm)));
    on_few = omega (arith, one_is, byte_le (is_on mask i), s.on_few);
  }

  -- after all rows
  module _ {errors : List Float} {sum : Float} {on i : ℕ} (s : Summed r ws mask v old errors sum on i) (e : i ≡ count r) (lm : length mask ≡ count r) (lo : length old ≡ count r) where
    pub all_errors : errors ≡ errors_of r mask v
    all_errors = whole s.front (e ∙ sym lo) ∙ ap (filled (error_at r mask v)) e

    pub all_summed : sum ≡ squares_to errors ws mask (length mask)
    all_summed = s.sum_is ∙ rw (all_errors, lm, e)

    pub all_on : on ≡ ones mask
    unfolding ones
    all_on = sym (add-zero on) ∙ (rw (drop_of_length-le mask {i = i} (omega (arith, e, lm))) at s.on_is)

-- ---- the second loop

-- after i rows: their bytes are those that are left, which are counted; whether one was rejected
pub record Sifted (errors roots : List Float) (mask : List ℕ) (clip : Clip) (list : List ℕ) (any : Bool) (left i : ℕ) : Type 0 where
  pub front : Front (byte_left errors roots mask clip) mask list i
  pub any_is : any ≡ any_rejected errors roots mask clip i
  pub left_is : left ≡ ones (filled (byte_left errors roots mask clip) i)

module _ (errors roots : List Float) (mask : List ℕ) (clip : Clip) where
  -- before the first row
  pub sift_none : Sifted errors roots mask clip mask false 0 0
  unfolding any_rejected filled ones
  sift_none = record { front = start; any_is = refl; left_is = refl }

  -- the count is at most how many rows there were
  pub left_few : {list : List ℕ} {any : Bool} {left i : ℕ} → Sifted errors roots mask clip list any left i → left ≤ i
  left_few {list} {any} {left} {i} s = omega (arith, s.left_is, ones_few (filled (byte_left errors roots mask clip) i), filled_length (byte_left errors roots mask clip) i)

  -- a row more: whether it is rejected, its byte b, and one where that is on
  pub sift_next : (list : List ℕ) (any out : Bool) (left i b one : ℕ) → Sifted errors roots mask clip list any left i → i < length mask
      → out ≡ (eqb (get_or list i 0) 1 && lt clip.limit (get_or errors i nan ⊗ get_or roots i nan)) → b ≡ cond out 0 (get_or list i 0) → one ≡ byte_of (eqb b 1)
      → Sifted errors roots mask clip (set list i b) (any || out) (left + one) (i + 1)
  unfolding any_rejected filled ones
  sift_next list any out left i b one s h out-is b_is one_is =
      let here = next_old 0 s.front h in
      let rejected : out ≡ is_rejected errors roots mask clip i = out-is ∙ rw here in
      let byte : b ≡ byte_left errors roots mask clip i = b_is ∙ rw (here, rejected) in
      record {
        front = again b s.front h byte;
        any_is = rw (add-one i, s.any_is, rejected);
        left_is = rw (add-one i, ones_append, ← byte) (omega (arith, s.left_is, one_is));
      }

  -- after all rows
  module _ {list : List ℕ} {any : Bool} {left i : ℕ} (s : Sifted errors roots mask clip list any left i) (e : i ≡ length mask) where
    pub all_sifted : list ≡ mask_left errors roots mask clip
    all_sifted = whole s.front e ∙ ap (filled (byte_left errors roots mask clip)) e

    pub all_any : any ≡ any_rejected errors roots mask clip (length mask)
    all_any = rw (← e) s.any_is

    pub all_left : left ≡ ones list
    all_left = s.left_is ∙ ap ones (sym (whole s.front e))
