-- One elimination of the matrix of both axes is the elimination of each. Assumes nothing.
use Rattle.std.specs.Prelude.{Err, Result, Ok}
use mathlib.Core.Path.{◌≡◌, refl, subst, ◌∙◌}
use mathlib.Core.Bool.{cond}
use mathlib.Core.List.{List, [], ◌∷◌}
use Prim.Native.Nat.{ℕ, zero, suc, ◌≤◌, ◌<◌}
use native.Mathlib.Omega.{arith}
use lib.Dec.{ltb}
use lib.Ieee.{Float}
use borrow.Author.Tests.{lt-ltb, le-ltb}
use Rattle.answer.specs.declared.Refusal.TheVariants as refusal
use Rattle.elimination_rows.specs.Matrix.{Matrix, cells}
use Rattle.elimination.specs.Elimination.{eliminated, unknowns, Solved, solution}
use Rattle.elimination.specs.Agrees.{Agrees}
use Rattle.elimination.specs.declared.NoPivot.{NoPivot}
use Rattle.elimination.proofs.Alike.{Alike}
use Rattle.elimination.proofs.Solved.{solved, singular, solution_alike}
use Rattle.cd_sums.specs.declared.Sums.{Sums}
use Rattle.cd_sums.specs.Sums.{Nine}
use Rattle.cd_sums.specs.Both.{xi_part, eta_part, Both}
use Rattle.cd_fit.specs.Fit.{system_of, axis_of, plate_in, plate_fit, both_axes, fit_of}

-- the matrix of both axes: three rows of five, the right sides of xi and eta last
abbrev pub matrix_of : Sums → List Float
matrix_of s =
    s.uu ∷ s.uv ∷ s.u ∷ s.ub ∷ s.uc ∷
    s.uv ∷ s.vv ∷ s.v ∷ s.vb ∷ s.vc ∷
    s.u ∷ s.v ∷ s.one ∷ s.b ∷ s.c ∷ []

-- the column of both axes that is column c of the one whose right side stands in column b
abbrev at : ℕ → ℕ → ℕ
at b c = cond (ltb c 3) c b

low : (b c : ℕ) → c < 3 → at b c ≡ c
low b c h = rw (lt-ltb c 3 h)

high : (b c : ℕ) → 3 ≤ b → 3 ≤ c → 3 ≤ at b c
high b c k h = rw (le-ltb c 3 h) k

-- four places, one by one
four : (p q : ℕ → Float) → p 0 ≡ q 0 → p 1 ≡ q 1 → p 2 ≡ q 2 → p 3 ≡ q 3 → (c : ℕ) → c < 4 → p c ≡ q c
four p q x y z t zero h = x
four p q x y z t (suc zero) h = y
four p q x y z t (suc (suc zero)) h = z
four p q x y z t (suc (suc (suc zero))) h = t
four p q x y z t (suc (suc (suc (suc c)))) h = absurd (omega arith)

-- three rows, one by one
three : (p q : Matrix) → ((c : ℕ) → c < 4 → p 0 c ≡ q 0 c) → ((c : ℕ) → c < 4 → p 1 c ≡ q 1 c) → ((c : ℕ) → c < 4 → p 2 c ≡ q 2 c) → (r c : ℕ) → r < 3 → c < 4 → p r c ≡ q r c
three p q x y z zero c h k = x c k
three p q x y z (suc zero) c h k = y c k
three p q x y z (suc (suc zero)) c h k = z c k
three p q x y z (suc (suc (suc r))) c h k = absurd (omega arith)

module _ (s : Sums) where
  abbrev whole : ℕ → Matrix
  whole b r c = cells (matrix_of s) 5 r (at b c)

  abbrev of_xi : Matrix
  of_xi = cells (system_of (xi_part s)) 4

  abbrev of_eta : Matrix
  of_eta = cells (system_of (eta_part s)) 4

  xi_like : Alike 3 4 (at 3) (cells (matrix_of s) 5) of_xi
  xi_like =
      three of_xi (whole 3) (four (of_xi 0) (whole 3 0) refl refl refl refl) (four (of_xi 1) (whole 3 1) refl refl refl refl) (four (of_xi 2) (whole 3 2) refl refl refl refl)

  eta_like : Alike 3 4 (at 4) (cells (matrix_of s) 5) of_eta
  eta_like =
      three of_eta (whole 4) (four (of_eta 0) (whole 4 0) refl refl refl refl) (four (of_eta 1) (whole 4 1) refl refl refl refl) (four (of_eta 2) (whole 4 2) refl refl refl refl)

  axis_xi : axis_of (xi_part s) ≡ solution (cells (matrix_of s) 5) 3 3
  axis_xi = solution_alike 3 4 (at 3) (omega arith) (low 3) (λ c h. high 3 c (omega arith) h) (cells (matrix_of s) 5) of_xi xi_like 3 (omega arith)

  axis_eta : axis_of (eta_part s) ≡ solution (cells (matrix_of s) 5) 3 4
  axis_eta = solution_alike 3 4 (at 4) (omega arith) (low 4) (λ c h. high 4 c (omega arith) h) (cells (matrix_of s) 5) of_eta eta_like 3 (omega arith)

same_axes : {p q x y : Solved} → p ≡ x → q ≡ y → both_axes p q ≡ both_axes x y
same_axes e d = rw (e, d)

-- what an answer that is told says of the elimination
told : (s : Sums) (l : List Float) (r q : Result Unit NoPivot) → r ≡ q → Agrees (eliminated (cells (matrix_of s) 5) 3) r l 3 5 → Agrees (eliminated (cells (matrix_of s) 5) 3) q l 3 5
told s l r q h a = subst (λ (x : Result Unit NoPivot). Agrees (eliminated (cells (matrix_of s) 5) 3) x l 3 5) h a

-- where the elimination is done, the fit has the unknowns of both right sides
pub fit_solved : (s : Sums) (l : List Float) (r : Result Unit NoPivot) → r ≡ Ok tt → Agrees (eliminated (cells (matrix_of s) 5) 3) r l 3 5
    → fit_of (xi_part s) (eta_part s) ≡ plate_fit (plate_in (unknowns (cells l 5) 3 3) (unknowns (cells l 5) 3 4))
unfolding fit_of
fit_solved s l r h a =
    let e = told s l r (Ok tt) h a in
    same_axes (axis_xi s ∙ solved (cells (matrix_of s) 5) l 3 5 3 (omega arith) (omega arith) e) (axis_eta s ∙ solved (cells (matrix_of s) 5) l 3 5 4 (omega arith) (omega arith) e)

-- where it stops, there is none
pub fit_stopped : (s : Sums) (l : List Float) (col : ℕ) (r : Result Unit NoPivot) → r ≡ Err (record { col = col }) → Agrees (eliminated (cells (matrix_of s) 5) 3) r l 3 5
    → fit_of (xi_part s) (eta_part s) ≡ Err refusal.Degenerate
unfolding fit_of
fit_stopped s l col r h a =
    let e = told s l r (Err (record { col = col })) h a in
    same_axes (axis_xi s ∙ singular (cells (matrix_of s) 5) l 3 5 3 col e) (axis_eta s ∙ singular (cells (matrix_of s) 5) l 3 5 4 col e)

pub same_fit : {p q x y : Nine} → p ≡ x → q ≡ y → fit_of p q ≡ fit_of x y
same_fit e d = rw (e, d)

-- the fit of twelve sums is that of the nine of each axis
pub fit_both : {s : Sums} {xi eta : Nine} → Both s xi eta → fit_of (xi_part s) (eta_part s) ≡ fit_of xi eta
fit_both b = same_fit b.of_xi b.of_eta
