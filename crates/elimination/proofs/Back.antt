-- One turn of back substitution. Assumes nothing.
use Prim.Native.Nat.{ℕ, suc, ◌+◌, ◌-◌, ◌<◌, ◌≤◌}
use mathlib.Core.Path.{◌≡◌}
use mathlib.Core.List.{List, ◌∷◌}
use native.Mathlib.Numerals.{add-one}
use native.Mathlib.Omega.{arith}
use lib.ListN.{length, get_or, set, drop}
use lib.Seq.{drop-cons, get_or-set_same, drop-set-lt, lt-length-set}
use lib.Ieee.{Float, nan, binary64, sub, mul, div}
use Rattle.elimination_rows.specs.Matrix.{Matrix}
use Rattle.elimination.specs.Elimination.{row_less, unknowns_to}

pub row_more : (m : Matrix) (i j : ℕ) (xs : List Float) (s : Float) (k : ℕ) → k < length xs
    → row_less m i (j + k) (drop k xs) s ≡ row_less m i (j + (k + 1)) (drop (k + 1) xs) (sub binary64 s (mul binary64 (m i (j + k)) (get_or xs k nan)))
unfolding row_less
row_more m i j xs s k h =
    let e : j + (k + 1) ≡ j + k + 1 = omega arith in
    rw (e, add-one k, drop-cons xs k nan)

pub back_more : (m : Matrix) (n b left : ℕ) → 0 < left → left ≤ n
    → unknowns_to m n b (n - (left - 1))
    ≡ div binary64 (row_less m (left - 1) (left - 1 + 1) (unknowns_to m n b (n - left)) (m (left - 1) b)) (m (left - 1) (left - 1)) ∷ unknowns_to m n b (n - left)
unfolding unknowns_to
back_more m n b left h g =
    let e : n - (left - 1) ≡ suc (n - left) = omega arith in
    let d : n - suc (n - left) ≡ left - 1 = omega arith in
    rw (e, d)

-- a store at i, seen from i on
pub put_front : (x : List Float) (i : ℕ) (v : Float) → i < length x → drop i (set x i v) ≡ v ∷ drop (i + 1) x
put_front x i v h =
    let g : i < suc i = omega arith in
    rw (add-one i, drop-cons (set x i v) i nan (lt-length-set x i v h), get_or-set_same x i v nan h, drop-set-lt (suc i) x i v g)
