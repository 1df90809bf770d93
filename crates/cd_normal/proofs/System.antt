-- A system that is put together row by row. Assumes nothing.
-- the last number is stored behind a copy
use Prim.Native.Nat.{ℕ, suc, ◌+◌, ◌*◌, ◌-◌, ◌<◌}
use mathlib.Core.Path.{◌≡◌, refl, ap, ◌∙◌}
use mathlib.Core.Bool.{Bool, true, false, cond, ◌&&◌}
use mathlib.Core.List.{List, [], ◌∷◌, ◌++◌}
use native.Mathlib.Omega.{arith}
use lib.Dec.{ltb, eqb}
use lib.ListN.{length, get_or, set, take, drop, length-drop, length-append, drop_of_length-le, get_or-append}
use lib.Seq.{get_or-take, get_or-drop, get_or_at, set_at, drop-cons, length-take-le}
use lib.Ieee.{Float, nan}
use borrow.Author.Tests.{ltb-true, ltb-false, eqb-true, lt-ltb, le-ltb, le-leb}
use Rattle.elimination_rows.specs.Matrix.{Matrix, cells}
use Rattle.elimination_rows.specs.Holds.{Holds}
use Rattle.elimination_rows.proofs.Flat.{in_row, tail_at}
use Rattle.elimination_rows.proofs.Turns.{up_to, other_below}
use Rattle.cd_normal.specs.Normal.{system}

pub last_put : (to new from : List Float) (v : Float) → length to ≡ length from + 1 → new ≡ from → set (new ++ drop (length from) to) (length from) v ≡ from ++ (v ∷ [])
last_put to new from v h e =
    let d : drop (suc (length from)) to ≡ [] = drop_of_length-le to {i = suc (length from)} (omega arith) in
    rw (e, drop-cons to (length from) nan (omega arith), d) (set_at from (get_or to (length from) nan) [] v (length from) refl)

module _ (a b : List Float) (n : ℕ) (la : length a ≡ n * n) where
  -- one row of the system as a list
  abbrev row : ℕ → List Float
  row r = take n (drop (r * n) a) ++ (get_or b r nan ∷ [])

  part_long : (r : ℕ) → r < n → length (take n (drop (r * n) a)) ≡ n
  part_long r h = length-take-le n (drop (r * n) a) (rw length-drop (omega (arith, in_row n n r h)))

  row_at : (r c : ℕ) → r < n → c < n + 1 → get_or (row r) c nan ≡ system a b n r c
  row_at r c h k = go (ltb c n) refl
    where
      go : (x : Bool) → ltb c n ≡ x → get_or (row r) c nan ≡ cond x (cells a n r c) (get_or b r nan)
      go true e =
          let t : c < n = ltb-true c n e in
          get_or-append (take n (drop (r * n) a)) (get_or b r nan ∷ []) nan c (rw (part_long r h) t) ∙ get_or-take n (drop (r * n) a) c nan t ∙ get_or-drop (r * n) a c nan
      go false e =
          let t : c ≡ n = omega (arith, ltb-false c n e) in
          rw t (get_or_at (take n (drop (r * n) a)) (get_or b r nan) [] nan n (part_long r h))

  -- the rows below r are the system's: one row more
  pub row_put : (l new : List Float) (r k j : ℕ) (old : Matrix) → r < n → length l ≡ n * (n + 1) → k ≡ n + 1 → j ≡ n → new ≡ take j (drop (r * n) a) ++ (get_or b r nan ∷ []) → Holds l n (n + 1) (up_to r (system a b n) old)
      → Holds (take (r * (n + 1)) l ++ (new ++ drop k (drop (r * (n + 1)) l))) n (n + 1) (up_to (r + 1) (system a b n) old)
  row_put l new r k j old h e ek ej en s x c i t =
      let f : new ≡ row r = rw ej at en in
      let z : r * (n + 1) + 0 ≡ r * (n + 1) = omega arith in
      let y : n + 1 - 0 ≡ n + 1 = omega arith in
      let u : c - 0 ≡ c = omega arith in
      let g = tail_at l new n (n + 1) r 0 e h (omega arith) (rw (f, length-append, part_long r h) (omega arith)) x c t in
      rw (ap (λ (q : ℕ). drop q (drop (r * (n + 1)) l)) ek) (rw (z, y, u, le-leb 0 c (omega arith)) at g) ∙ go f (eqb x r) refl
    where
      go : new ≡ row r → (y : Bool) → eqb x r ≡ y → cond (y && true) (get_or new c nan) (cells l (n + 1) x c) ≡ up_to (r + 1) (system a b n) old x c
      go f true q = rw (eqb-true x r q, lt-ltb r (r + 1) (omega arith), f) (row_at r c h t)
      go f false q = rw (other_below x r q) (s x c i t)

  pub rows_none : (l : List Float) → Holds l n (n + 1) (up_to 0 (system a b n) (cells l (n + 1)))
  rows_none l r c h k = rw (le-ltb r 0 (omega arith))

  pub rows_all : (l : List Float) (old : Matrix) → Holds l n (n + 1) (up_to n (system a b n) old) → Holds l n (n + 1) (system a b n)
  rows_all l old s r c h k = s r c h k ∙ rw (lt-ltb r n h)
