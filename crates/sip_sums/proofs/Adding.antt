-- The equations with one row more, line by line. Assumes nothing.
use mathlib.Core.Path.{◌≡◌, refl, ap, ◌∙◌}
use mathlib.Core.Bool.{Bool, true, false, cond, ◌&&◌}
use mathlib.Core.List.{List, ◌++◌}
use Prim.Native.Nat.{ℕ, ◌+◌, ◌*◌, ◌-◌, ◌<◌}
use native.Mathlib.Numerals.{add-one}
use native.Mathlib.Omega.{arith}
use lib.Dec.{eqb}
use lib.ListN.{length, get_or, take, drop, replicate, get_or-replicate, length-drop}
use lib.Seq.{get_or-take, get_or-drop, length-take-le}
use lib.Ieee.{Float, nan}
use borrow.Author.Tests.{eqb-true, lt-ltb, le-ltb, le-leb}
use Rattle.floats.specs.Rounded.{◌⊗◌}
use Rattle.cd_plate.specs.Plate.{nothing}
use Rattle.cd_plate.specs.Masked.{is_on}
use Rattle.cd_plate.specs.Filled.{filled}
use Rattle.cd_plate.proofs.Filling.{filled_length, filled_at}
use Rattle.elimination_rows.specs.Matrix.{Matrix, cells}
use Rattle.elimination_rows.specs.Holds.{Holds}
use Rattle.elimination_rows.proofs.Flat.{in_cell, in_row, tail_at}
use Rattle.elimination_rows.proofs.Turns.{up_to, other_below}
use Rattle.sip_sums.specs.Field.{weight_at}
use Rattle.sip_sums.specs.Steps.{More, with_line, with_line_if, sums_in}

-- a row of a flat matrix, lent and brought back
pub row_at : (l new : List Float) (n w a k : ℕ) → k ≡ w → length l ≡ n * w → a < n → length new ≡ w → (r c : ℕ) → c < w
    → cells (take (a * w) l ++ (new ++ drop k (drop (a * w) l))) w r c ≡ cond (eqb r a) (get_or new c nan) (cells l w r c)
row_at l new n w a k ek e h f r c t =
    let z : a * w + 0 ≡ a * w = omega arith in
    let y : w - 0 ≡ w = omega arith in
    let u : c - 0 ≡ c = omega arith in
    let g = tail_at l new n w a 0 e h (omega arith) (rw y f) r c t in
    rw (ap (λ (q : ℕ). drop q (drop (a * w) l)) ek) (rw (z, y, u, le-leb 0 c (omega arith)) at g) ∙ go (eqb r a)
  where
    go : (b : Bool) → cond (b && true) (get_or new c nan) (cells l w r c) ≡ cond b (get_or new c nan) (cells l w r c)
    go true = refl
    go false = refl

module _ (m : Matrix) (weight : Float) (line : List Float) (n w : ℕ) where
  pub lines_none : (l : List Float) → Holds l n w m → Holds l n w (up_to 0 (with_line m weight line) m)
  lines_none l h r c i j = rw (le-ltb r 0 (omega arith)) (h r c i j)

  pub lines_all : (l : List Float) → Holds l n w (up_to n (with_line m weight line) m) → Holds l n w (with_line m weight line)
  lines_all l h r c i j = h r c i j ∙ rw (lt-ltb r n i)

  -- the rows below i have the line: one more
  pub lines_more : (l new : List Float) (i k : ℕ) (f : Float) → k ≡ w → i < n → length l ≡ n * w → f ≡ weight ⊗ get_or line i nan → length new ≡ length (take k (drop (i * w) l))
      → More (take k (drop (i * w) l)) line f new → Holds l n w (up_to i (with_line m weight line) m)
      → Holds (take (i * w) l ++ (new ++ drop k (drop (i * w) l))) n w (up_to (i + 1) (with_line m weight line) m)
  lines_more l new i k f ek h e ef ln s o r c x y =
      let long : length (take k (drop (i * w) l)) ≡ w = length-take-le k (drop (i * w) l) (rw (ek, length-drop) (omega (arith, in_row n w i h))) ∙ ek in
      row_at l new n w i k ek e h (ln ∙ long) r c y ∙ go (eqb r i) refl long
    where
      go : (b : Bool) → eqb r i ≡ b → length (take k (drop (i * w) l)) ≡ w → cond b (get_or new c nan) (cells l w r c) ≡ up_to (i + 1) (with_line m weight line) m r c
      go true q long =
          let old : cells l w i c ≡ m i c = o i c h y ∙ rw (le-ltb i i (omega arith)) in
          rw (eqb-true r i q, lt-ltb i (i + 1) (omega arith))
          (s c (rw long y) ∙ rw (get_or-take k (drop (i * w) l) c nan (rw ek y), get_or-drop (i * w) l c nan, old, ef))
      go false q long = rw (other_below r i q) (o r c x y)

-- a row that is off adds nothing
pub line_kept : (l line : List Float) (n w : ℕ) (weight : Float) (on : Bool) → on ≡ false → Holds l n w (with_line_if on (cells l w) weight line)
line_kept l line n w weight on e r c i j = rw e

pub line_added : (l new line : List Float) (n w : ℕ) (weight : Float) (on : Bool) → on ≡ true → Holds new n w (with_line (cells l w) weight line) → Holds new n w (with_line_if on (cells l w) weight line)
line_added l new line n w weight on e h r c i j = rw e (h r c i j)

module _ (lines : List Float) (snr : List Float) (mask : List ℕ) (n : ℕ) where
  pub sums_none : (l : List Float) → l ≡ replicate (n * (n + 2)) nothing → Holds l n (n + 2) (sums_in (cells lines (n + 2)) snr mask 0)
  unfolding sums_in
  sums_none l e r c i j = rw e (get_or-replicate (n * (n + 2)) (r * (n + 2) + c) nothing nan (in_cell n (n + 2) r c i j))

  -- one line more, lent from the table
  pub sums_more : (l new : List Float) (k w : ℕ) (on : Bool) (weight : Float) → w ≡ n + 2 → on ≡ is_on mask k → weight ≡ weight_at snr k
      → Holds l n (n + 2) (sums_in (cells lines (n + 2)) snr mask k) → Holds new n (n + 2) (with_line_if on (cells l (n + 2)) weight (take w (drop (k * (n + 2)) lines)))
      → Holds new n (n + 2) (sums_in (cells lines (n + 2)) snr mask (k + 1))
  unfolding sums_in
  sums_more l new k w on weight e eb ew h s r c i j =
      s r c i j ∙ rw (
        h r c i j,
        eb,
        ew,
        add-one k,
        get_or-take w (drop (k * (n + 2)) lines) r nan (omega (arith, e)),
        get_or-drop (k * (n + 2)) lines r nan,
        get_or-take w (drop (k * (n + 2)) lines) c nan (omega (arith, e)),
        get_or-drop (k * (n + 2)) lines c nan,
      )

-- the lines below k are put: one more
module _ (a b : Matrix) (n w : ℕ) where
  pub put_none : (l : List Float) → Holds l n w b → Holds l n w (up_to 0 a b)
  put_none l h r c i j = rw (le-ltb r 0 (omega arith)) (h r c i j)

  pub put_all : (l : List Float) → Holds l n w (up_to n a b) → Holds l n w a
  put_all l h r c i j = h r c i j ∙ rw (lt-ltb r n i)

  pub put_more : (l new : List Float) (i k : ℕ) → k ≡ w → i < n → length l ≡ n * w → new ≡ filled (a i) w → Holds l n w (up_to i a b)
      → Holds (take (i * w) l ++ (new ++ drop k (drop (i * w) l))) n w (up_to (i + 1) a b)
  put_more l new i k ek h e en o r c x y = row_at l new n w i k ek e h (rw en (filled_length (a i) w)) r c y ∙ go (eqb r i) refl
    where
      go : (d : Bool) → eqb r i ≡ d → cond d (get_or new c nan) (cells l w r c) ≡ up_to (i + 1) a b r c
      go true q = rw (eqb-true r i q, lt-ltb i (i + 1) (omega arith), en) (filled_at (a i) w c nan y)
      go false q = rw (other_below r i q) (o r c x y)
