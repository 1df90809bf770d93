-- One elimination of the equations of both axes is the elimination of each. Assumes nothing.
use Rattle.std.specs.Prelude.{Result, Ok, Err}
use mathlib.Core.Path.{◌≡◌, refl, sym, ap, subst, ◌∙◌}
use mathlib.Core.Bool.{Bool, true, false, cond}
use mathlib.Core.List.{List}
use Prim.Native.Nat.{ℕ, zero, suc, ◌+◌, ◌≤◌, ◌<◌}
use native.Mathlib.Omega.{arith}
use lib.Dec.{ltb}
use lib.ListN.{length}
use lib.Ieee.{Float}
use borrow.Author.Tests.{ltb-true, lt-ltb, le-ltb, eq-eqb, ne_eqb}
use Rattle.answer.specs.declared.Refusal.TheVariants as refusal
use Rattle.rows.specs.Rows.{count}
use Rattle.cd_mask.specs.Marks.{ones}
use Rattle.elimination_rows.specs.Matrix.{Matrix, cells}
use Rattle.elimination_rows.specs.Holds.{Holds}
use Rattle.elimination.specs.Elimination.{eliminated, unknowns, Solved, solution}
use Rattle.elimination.specs.Agrees.{Agrees}
use Rattle.elimination.specs.declared.NoPivot.{NoPivot}
use Rattle.elimination.proofs.Alike.{Alike}
use Rattle.elimination.proofs.Solved.{solved, singular, solution_alike, solution_held}
use Rattle.sip_terms.specs.Terms.{basis_of}
use Rattle.sip_sums.specs.declared.Offset.{Offset}
use Rattle.sip_sums.specs.Field.{Field, offset_at}
use Rattle.sip_sums.specs.Normal.{x_of, y_of, column_of, entry_to, equations_of}
use Rattle.sip_sums.specs.Steps.{line_at, sums_in}
use Rattle.sip_solve.specs.Solve.{Coefficients, kept_all, axis_of, Found, None, both_axes, pick_coefficients, solve_of}
use Rattle.sip_solve.specs.Steps.{both_sides, solve_in}

-- a number of the equations of an axis is that of the lines, where they agree in its row and in its column
entry_same : (f : Field) (mask : List ℕ) (column : Offset → ℕ → Float) (lines : Matrix) (i j h k : ℕ)
    → ((a : ℕ) → a < k → basis_of (offset_at f.rows f.wcs a).u (offset_at f.rows f.wcs a).v i ≡ lines a i)
    → ((a : ℕ) → a < k → column (offset_at f.rows f.wcs a) j ≡ lines a h) → entry_to f mask column i j k ≡ sums_in lines f.snr mask k i h
unfolding entry_to sums_in
entry_same f mask column lines i j h zero e d = refl
entry_same f mask column lines i j h (suc k) e d =
    rw (entry_same f mask column lines i j h k (λ a g. e a (omega arith)) (λ a g. d a (omega arith)), e k (omega arith), d k (omega arith))

same_axes : {p q x y : Solved} → p ≡ x → q ≡ y → both_axes p q ≡ both_axes x y
same_axes e d = rw (e, d)

-- the column of both axes that is column c of the one whose right side stands in column b
abbrev at : ℕ → ℕ → ℕ → ℕ
at n b c = cond (ltb c n) c b

module _ (f : Field) (mask : List ℕ) (n : ℕ) (lines : Matrix) (told : (a c : ℕ) → a < count f.rows → c < n + 2 → lines a c ≡ line_at n (offset_at f.rows f.wcs a) c) where
  abbrev both : Matrix
  both = sums_in lines f.snr mask (count f.rows)

  like : (axis : Offset → Float) (b : ℕ) → b < n + 2 → ((o : Offset) → axis o ≡ line_at n o b) → Alike n (n + 1) (at n b) both (equations_of f mask axis n)
  like axis b g e r c h k =
      entry_same f mask (column_of axis n) lines r c (at n b c) (count f.rows) (λ a i. sym (told a r i (omega arith) ∙ rw (lt-ltb r n h))) (λ a i. go a i (ltb c n) refl)
    where
      go : (a : ℕ) → a < count f.rows → (x : Bool) → ltb c n ≡ x
          → cond x (basis_of (offset_at f.rows f.wcs a).u (offset_at f.rows f.wcs a).v c) (axis (offset_at f.rows f.wcs a)) ≡ lines a (cond x c b)
      go a i true p = sym (told a c i (omega (arith, ltb-true c n p)) ∙ rw p)
      go a i false p = e (offset_at f.rows f.wcs a) ∙ sym (told a b i g)

  axis_is : (axis : Offset → Float) (b : ℕ) → n ≤ b → b < n + 2 → ((o : Offset) → axis o ≡ line_at n o b) → axis_of f mask axis n ≡ solution both n b
  axis_is axis b h g e =
      let z : at n b n ≡ b = rw (le-ltb n n (omega arith)) in
      solution_alike n (n + 1) (at n b) (omega arith) (λ c k. rw (lt-ltb c n k)) (λ c k. rw (le-ltb c n k) h) both (equations_of f mask axis n) (like axis b g e) n (omega arith) ∙ rw z

  x_last : (o : Offset) → x_of o ≡ line_at n o n
  x_last o = rw (le-ltb n n (omega arith), eq-eqb n n refl)

  y_last : (o : Offset) → y_of o ≡ line_at n o (n + 1)
  y_last o = rw (le-ltb (n + 1) n (omega arith), ne_eqb (n + 1) n (λ e. omega arith))

  -- the solves over a table that has the lines of the rows are those of the definition
  pub solve_lines : length f.snr ≡ count f.rows → solve_in lines f.snr mask n ≡ solve_of f mask n
  unfolding solve_in solve_of
  solve_lines e =
      rw e (ap (λ (x : Coefficients). pick_coefficients (ltb (ones mask) n) (None refusal.Rows) x)
      (sym (same_axes (axis_is x_of n (omega arith) (omega arith) x_last) (axis_is y_of (n + 1) (omega arith) (omega arith) y_last))))

module _ (m : Matrix) (n : ℕ) (mid l : List Float) (held : Holds mid n (n + 2) m) where
  side_held : (b : ℕ) → b < n + 2 → solution m n b ≡ solution (cells mid (n + 2)) n b
  side_held b k = sym (solution_held m mid n (n + 2) b (omega arith) k held)

  told_end : (r q : Result Unit NoPivot) → r ≡ q → Agrees (eliminated (cells mid (n + 2)) n) r l n (n + 2) → Agrees (eliminated (cells mid (n + 2)) n) q l n (n + 2)
  told_end r q e a = subst (λ (x : Result Unit NoPivot). Agrees (eliminated (cells mid (n + 2)) n) x l n (n + 2)) e a

  -- where the elimination is done, both axes have the unknowns of their right sides
  pub axes_solved : (r : Result Unit NoPivot) → r ≡ Ok tt → Agrees (eliminated (cells mid (n + 2)) n) r l n (n + 2)
      → both_sides m n ≡ Found (kept_all (unknowns (cells l (n + 2)) n n)) (kept_all (unknowns (cells l (n + 2)) n (n + 1)))
  axes_solved r h a =
      let e = told_end r (Ok tt) h a in
      same_axes (side_held n (omega arith) ∙ solved (cells mid (n + 2)) l n (n + 2) n (omega arith) (omega arith) e)
      (side_held (n + 1) (omega arith) ∙ solved (cells mid (n + 2)) l n (n + 2) (n + 1) (omega arith) (omega arith) e)

  -- where it stops, neither has any
  pub axes_stopped : (r : Result Unit NoPivot) (col : ℕ) → r ≡ Err (record { col = col }) → Agrees (eliminated (cells mid (n + 2)) n) r l n (n + 2) → both_sides m n ≡ None refusal.Degenerate
  axes_stopped r col h a =
      let e = told_end r (Err (record { col = col })) h a in
      same_axes (side_held n (omega arith) ∙ singular (cells mid (n + 2)) l n (n + 2) n col e) (side_held (n + 1) (omega arith) ∙ singular (cells mid (n + 2)) l n (n + 2) (n + 1) col e)
