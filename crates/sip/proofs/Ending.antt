-- What the end of the rounds says of the answer and of the coefficients. Assumes nothing.
use Rattle.std.specs.Prelude.{Result, Ok, Err}
use mathlib.Core.Path.{◌≡◌}
use mathlib.Core.List.{List, ◌++◌}
use Prim.Native.Nat.{ℕ}
use native.Mathlib.Omega.{arith}
use lib.ListN.{length, drop}
use lib.Ieee.{Float}
use Rattle.answer.specs.Answers.{written}
use Rattle.answer.specs.declared.Refusal.{Refusal}
use Rattle.sip_terms.specs.declared.Sip.{Sip}
use Rattle.sip_sums.specs.Field.{Field}
use Rattle.sip_clip.specs.Clip.{errors_of}
use Rattle.sip_rms.specs.Rms.{linear_rms_of, sip_of}
use Rattle.sip_rounds.specs.Rounds.{Ended, ended_as}
use Rattle.sip.specs.Call.{sip_after, coefficients_a, coefficients_b}

module _ (f : Field) (e : Ended) (r : Result Unit Refusal) (mask : List ℕ) (a b : List Float) (told : ended_as r mask a b ≡ e) where
  pub failed : (why : Refusal) → r ≡ Err why → Err why ≡ sip_after f e
  failed why h = rw (← told, h)

  module _ (h : r ≡ Ok tt) where
    pub done : (sip : Sip) (linear : Float) (es : List Float) → linear ≡ linear_rms_of f.rows f.wcs → es ≡ errors_of f.rows f.wcs mask a b → sip ≡ sip_of linear f.snr mask es → Ok sip ≡ sip_after f e
    done sip linear es el ee es-is = rw (← told, h, es-is, el, ee)

    pub done_a : a ≡ coefficients_a e
    done_a = rw (← told, h)

    pub done_b : b ≡ coefficients_b e
    done_b = rw (← told, h)

-- a copy in front of the further places
pub copied : (new x vs old : List Float) (n : ℕ) → length x ≡ n → new ≡ x → x ≡ vs → new ++ drop n old ≡ written vs old
copied new x vs old n l e h = rw (e, ← h, l)
