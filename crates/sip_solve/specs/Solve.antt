-- Both solves of a SIP fit over the rows that are on. Definitions only.
use Rattle.std.specs.Prelude.{Bool, true, false, List, ℕ, ltb, length, get_or, Float, Result, Ok, Err}
use Rattle.std.specs.Float.{nan}
use Rattle.answer.specs.declared.Refusal.{Refusal}
use Rattle.answer.specs.declared.Refusal.TheVariants as refusal
use Rattle.cd_mask.specs.Marks.{ones}
use Rattle.cd_plate.specs.Filled.{filled}
use Rattle.elimination.specs.Elimination.{Solved, Unknowns, Singular, solution}
use Rattle.sip_terms.specs.Terms.{kept_of}
use Rattle.sip_sums.specs.declared.Offset.{Offset}
use Rattle.sip_sums.specs.Field.{Field}
use Rattle.sip_sums.specs.Normal.{x_of, y_of, equations_of}

-- a coefficient as it is handed out
abbrev pub kept_at : List Float → ℕ → Float
kept_at cs i = kept_of (get_or cs i nan)

-- and all of them
abbrev pub kept_all : List Float → List Float
kept_all cs = filled (kept_at cs) (length cs)

-- what the equations of an axis come to, in n terms
abbrev pub axis_of : Field → List ℕ → (Offset → Float) → ℕ → Solved
axis_of f mask axis n = solution (equations_of f mask axis n) n n

-- the coefficients of both axes, or why there are none
pub data Coefficients : Type 0 where
  Found : List Float → List Float → Coefficients
  None : Refusal → Coefficients

-- two axes: number 8 where either is singular
abbrev pub both_axes : Solved → Solved → Coefficients
both_axes (Unknowns x) (Unknowns y) = Found (kept_all x) (kept_all y)
both_axes (Unknowns x) (Singular col) = None refusal.Degenerate
both_axes (Singular col) other = None refusal.Degenerate

-- the first where a test holds, else the second
abbrev pub pick_coefficients : Bool → Coefficients → Coefficients → Coefficients
pick_coefficients true a b = a
pick_coefficients false a b = b

-- both solves over the rows that are on: number 6 for fewer of them than terms
unfoldable pub solve_of : Field → List ℕ → ℕ → Coefficients
solve_of f mask n = pick_coefficients (ltb (ones mask) n) (None refusal.Rows) (both_axes (axis_of f mask x_of n) (axis_of f mask y_of n))

-- an answer with two lists: their coefficients where it is done
abbrev pub coefficients_as : Result Unit Refusal → List Float → List Float → Coefficients
coefficients_as (Ok tt) a b = Found a b
coefficients_as (Err why) a b = None why
