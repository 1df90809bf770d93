-- Worked examples, each by computation.
use Rattle.std.specs.Prelude.{◌≡◌, refl, List, [], ◌∷◌, Float, Ok, Err}
use Rattle.std.proofs.Math.Option.{none}
use Rattle.std.specs.Float.{nan, binary64}
use Rattle.std.specs.Float.Ieee.{of_bits, neg, lt, le, eq}
use Rattle.domain.specs.Domain.{every}
use Rattle.answer.specs.declared.Refusal.TheVariants.{Lengths, Value}
use Rattle.rows.specs.Rows.{rows, position_rows, rows_answer}
use Rattle.verify.specs.Score.{fit_triple, score_answer}

abbrev zero : Float
zero = of_bits binary64 0

abbrev two : List Float
two = zero ∷ zero ∷ []

-- fewer than three rows score 0
two_rows : score_answer (rows two two two two) ≡ Ok 0
unfolding score_answer rows_answer position_rows every of_bits neg lt le eq
two_rows = refl

-- and are refused as any rows are
unlike_lengths : score_answer (rows two two two []) ≡ Err Lengths
unfolding score_answer rows_answer
unlike_lengths = refl

no_position : score_answer (rows (nan ∷ []) (zero ∷ []) (zero ∷ []) (zero ∷ [])) ≡ Err Value
unfolding score_answer rows_answer position_rows every of_bits neg lt le eq
no_position = refl

-- two equal places cannot be fitted
skipped : fit_triple (rows two two two two) (record { a = 1; b = 0; c = 1 }) ≡ none
unfolding fit_triple
skipped = refl
