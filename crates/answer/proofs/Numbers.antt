-- The numbers of refusals. Assumes nothing.
use mathlib.Core.Path.{◌≡◌, refl}
use native.Mathlib.Omega.{arith}
use Rattle.answer.specs.declared.Refusal.{Refusal}
use Rattle.answer.specs.declared.Refusal.TheVariants.{Count, Lengths, Value, Place, Index, Order, Rows, Room, Degenerate, Few, Form}
use Rattle.answer.specs.Answers.{number_of}

-- a refusal is not done
pub not_done : (why : Refusal) → number_of why ≡ 0 → ⊥
not_done Count e = omega arith
not_done Lengths e = omega arith
not_done Value e = omega arith
not_done Place e = omega arith
not_done Index e = omega arith
not_done Order e = omega arith
not_done Rows e = omega arith
not_done Room e = omega arith
not_done Degenerate e = omega arith
not_done Few e = omega arith
not_done Form e = omega arith

-- number 9 is that of one refusal
pub nine_is : (why : Refusal) → number_of why ≡ 9 → why ≡ Few
nine_is Count e = absurd (omega arith)
nine_is Lengths e = absurd (omega arith)
nine_is Value e = absurd (omega arith)
nine_is Place e = absurd (omega arith)
nine_is Index e = absurd (omega arith)
nine_is Order e = absurd (omega arith)
nine_is Rows e = absurd (omega arith)
nine_is Room e = absurd (omega arith)
nine_is Degenerate e = absurd (omega arith)
nine_is Few e = refl
nine_is Form e = absurd (omega arith)
