-- The affine of three rows, and the rows that agree with one. Each operation is rounded once, in the Rust's order. Definitions only.
use Rattle.answer.specs.declared.Refusal.{Refusal}
use Rattle.std.specs.Prelude.{Bool, cond, ℕ, zero, suc, ◌+◌, Float, Result, Ok, Err}
use Rattle.std.specs.Float.{binary64}
use Rattle.std.specs.Float.Ieee.{of_bits, neg, lt}
use Rattle.floats.specs.Rounded.{◌⊕◌, ◌⊖◌, ◌⊗◌, ◌⊘◌}
use Rattle.floats.specs.Magnitude.{magnitude_of}
use Rattle.answer.specs.Answers.{number_of}
use Rattle.answer.specs.declared.Refusal.TheVariants as refusal
use Rattle.rows.specs.Rows.{Rows, row_at, count}
use Rattle.rows.specs.declared.Row.{Row}
use Rattle.affine.specs.declared.Affine.{Affine}
use Rattle.affine.specs.declared.Inverse.{Inverse}

-- 1e-20, the least determinant of three rows that are fitted.
abbrev pub least_determinant : Float
least_determinant = of_bits binary64 0x3bc7_9ca1_0c92_4223

-- 1e-30, the least determinant of an affine that is inverted.
abbrev pub least_inverted : Float
least_inverted = of_bits binary64 0x39b4_484b_feeb_c2a0

-- 1.0
abbrev pub one : Float
one = of_bits binary64 0x3ff0_0000_0000_0000

-- The determinant of three rows' pixels.
unfoldable pub area_of : Row → Row → Row → Float
area_of p q r = (q.px ⊖ p.px) ⊗ (r.py ⊖ p.py) ⊖ (r.px ⊖ p.px) ⊗ (q.py ⊖ p.py)

-- The affine of three rows, by Cramer's rule with the determinant's rounded inverse.
unfoldable pub affine_of : Row → Row → Row → Float → Affine
affine_of p q r area =
    let inv = one ⊘ area in
    let a11 = ((q.xi ⊖ p.xi) ⊗ (r.py ⊖ p.py) ⊖ (r.xi ⊖ p.xi) ⊗ (q.py ⊖ p.py)) ⊗ inv in
    let a12 = ((r.xi ⊖ p.xi) ⊗ (q.px ⊖ p.px) ⊖ (q.xi ⊖ p.xi) ⊗ (r.px ⊖ p.px)) ⊗ inv in
    let a21 = ((q.eta ⊖ p.eta) ⊗ (r.py ⊖ p.py) ⊖ (r.eta ⊖ p.eta) ⊗ (q.py ⊖ p.py)) ⊗ inv in
    let a22 = ((r.eta ⊖ p.eta) ⊗ (q.px ⊖ p.px) ⊖ (q.eta ⊖ p.eta) ⊗ (r.px ⊖ p.px)) ⊗ inv in
    record {
      a11 = a11;
      a12 = a12;
      tx = p.xi ⊖ a11 ⊗ p.px ⊖ a12 ⊗ p.py;
      a21 = a21;
      a22 = a22;
      ty = p.eta ⊖ a21 ⊗ p.px ⊖ a22 ⊗ p.py;
    }

-- What three rows come to: number 8 where the determinant's magnitude is below the least, else their affine.
unfoldable pub fit_of : Row → Row → Row → Result Affine Refusal
fit_of p q r =
    cond (lt (magnitude_of (area_of p q r)) least_determinant) (Err refusal.Degenerate)
    (Ok (affine_of p q r (area_of p q r)))

-- The determinant of an affine's four factors.
unfoldable pub determinant_of : Affine → Float
determinant_of m = m.a11 ⊗ m.a22 ⊖ m.a12 ⊗ m.a21

-- Their inverse.
unfoldable pub inverse_of : Affine → Float → Inverse
inverse_of m det = record { i00 = m.a22 ⊘ det; i01 = neg m.a12 ⊘ det; i10 = neg m.a21 ⊘ det; i11 = m.a11 ⊘ det }

-- What an affine misses a row's xi by.
unfoldable pub missed_xi : Affine → Row → Float
missed_xi m row = row.xi ⊖ (m.a11 ⊗ row.px ⊕ m.a12 ⊗ row.py ⊕ m.tx)

-- What it misses its eta by.
unfoldable pub missed_eta : Affine → Row → Float
missed_eta m row = row.eta ⊖ (m.a21 ⊗ row.px ⊕ m.a22 ⊗ row.py ⊕ m.ty)

-- The squared error of a row in pixels: what is missed, taken back by the inverse.
unfoldable pub error_sq : Affine → Inverse → Row → Float
error_sq m v row =
    let dx = v.i00 ⊗ missed_xi m row ⊕ v.i01 ⊗ missed_eta m row in
    let dy = v.i10 ⊗ missed_xi m row ⊕ v.i11 ⊗ missed_eta m row in
    dx ⊗ dx ⊕ dy ⊗ dy

-- A row agrees when its squared error is below the squared limit; an error that is NaN is not.
abbrev pub is_near : Affine → Inverse → Float → Row → Bool
is_near m v square row = lt (error_sq m v row) square

-- How many of the first k rows agree.
unfoldable pub near_rows : Affine → Inverse → Float → Rows → ℕ → ℕ
near_rows m v square r zero = 0
near_rows m v square r (suc k) = near_rows m v square r k + cond (is_near m v square (row_at r k)) 1 0

-- How many rows agree with an affine within a limit; none where the determinant's magnitude is below the least.
unfoldable pub agreeing : Rows → Float → Affine → ℕ
agreeing r limit m =
    cond (lt (magnitude_of (determinant_of m)) least_inverted) 0
    (near_rows m (inverse_of m (determinant_of m)) (limit ⊗ limit) r (count r))
