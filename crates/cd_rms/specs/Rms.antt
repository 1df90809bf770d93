-- The root mean square of errors, plain and weighted. Each operation is rounded once, in the Rust's order; sums start at 0.0. Definitions only.
use Rattle.answer.specs.declared.Refusal.{Refusal}
use Rattle.std.specs.Prelude.{cond, not, ◌||◌, List, ℕ, zero, suc, ltb, eqb, pos, length, get_or, Float, Result, Ok, Err}
use Rattle.std.specs.Float.{nan, binary64}
use Rattle.std.specs.Float.Ieee.{of_bits, of_int, add, mul, div, lt}
use Rattle.root.specs.Root.{root_of}
use Rattle.answer.specs.Answers.{number_of}
use Rattle.answer.specs.declared.Refusal.TheVariants as refusal
use Rattle.cd_rms.specs.declared.Weighed.{Weighed}

-- 0.0
abbrev pub nothing : Float
nothing = of_bits binary64 0

-- the sum of the squares of the first k errors
unfoldable pub squares_to : List Float → ℕ → Float
squares_to es zero = nothing
squares_to es (suc k) = let e = get_or es k nan in add binary64 (squares_to es k) (mul binary64 e e)

-- the root of the mean square; 0.0 where there is no error
unfoldable pub rms_of : List Float → Float
rms_of es = cond (eqb (length es) 0) nothing (root_of (div binary64 (squares_to es (length es)) (of_int binary64 (pos (length es)))))

-- the answer of `rms_error`: number 1 for more than 100 errors
abbrev pub rms_answer : List Float → Result Float Refusal
rms_answer es = cond (ltb 100 (length es)) (Err refusal.Count) (Ok (rms_of es))

-- the sums of no weights
abbrev pub no_weights : Weighed
no_weights = record { w = nothing; we2 = nothing }

-- the sums with one error more: w * e * e goes from left to right
abbrev pub with_error : Weighed → Float → Float → Weighed
with_error s w e = record { w = add binary64 s.w w; we2 = add binary64 s.we2 (mul binary64 (mul binary64 w e) e) }

-- the sums of the first k errors
unfoldable pub weighted_to : List Float → List Float → ℕ → Weighed
weighted_to es ws zero = no_weights
weighted_to es ws (suc k) = with_error (weighted_to es ws k) (get_or ws k nan) (get_or es k nan)

-- the root of a weighted mean square; 0.0 where the weights' sum is not above 0
abbrev pub mean_of : Weighed → Float
mean_of s = cond (lt nothing s.w) (root_of (div binary64 s.we2 s.w)) nothing

-- that of all errors
unfoldable pub weighted_of : List Float → List Float → Float
weighted_of es ws = mean_of (weighted_to es ws (length es))

-- the answer of `weighted_rms_error`: number 1 for a list of more than 100, number 2 where the lengths differ
abbrev pub weighted_answer : List Float → List Float → Result Float Refusal
weighted_answer es ws =
    cond (ltb 100 (length es) || ltb 100 (length ws)) (Err refusal.Count)
    (cond (not (eqb (length ws) (length es))) (Err refusal.Lengths)
    (Ok (weighted_of es ws)))
