-- What the inner steps give, which solve both axes at once from the lines of a table. Definitions only.
use Rattle.std.specs.Prelude.{List, ℕ, ◌+◌, ltb, length, Float}
use Rattle.answer.specs.declared.Refusal.TheVariants as refusal
use Rattle.cd_mask.specs.Marks.{ones}
use Rattle.elimination_rows.specs.Matrix.{Matrix}
use Rattle.elimination.specs.Elimination.{solution}
use Rattle.sip_sums.specs.Steps.{sums_in}
use Rattle.sip_solve.specs.Solve.{Coefficients, None, both_axes, pick_coefficients}

-- what equations in n terms come to, with the right sides in columns n and n + 1
abbrev pub both_sides : Matrix → ℕ → Coefficients
both_sides m n = both_axes (solution m n n) (solution m n (n + 1))

-- both solves over the lines of the rows that are on
unfoldable pub solve_in : Matrix → List Float → List ℕ → ℕ → Coefficients
solve_in lines snr mask n = pick_coefficients (ltb (ones mask) n) (None refusal.Rows) (both_sides (sums_in lines snr mask (length snr)) n)
