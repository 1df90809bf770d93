-- The normal equations as a call: its system, its tests and its answer. Definitions only.
use Rattle.answer.specs.declared.Refusal.{Refusal}
use Rattle.std.specs.Prelude.{ℕ, ◌*◌, cond, ◌&&◌, List, [], ltb, eqb, length, get_or, Float, Result, Ok, Err}
use Rattle.std.specs.Float.{nan}
use Rattle.answer.specs.Answers.{first, room_for}
use Rattle.answer.specs.declared.Refusal.TheVariants.{Count, Lengths, Degenerate}
use Rattle.elimination_rows.specs.Matrix.{Matrix, cells}
use Rattle.elimination.specs.Elimination.{Solved, Unknowns, Singular, solution}

-- n rows: a matrix given row by row, with its right side in column n
abbrev pub system : List Float → List Float → ℕ → Matrix
system a b n r c = cond (ltb c n) (cells a n r c) (get_or b r nan)

-- what the system comes to
unfoldable pub normal_solved : List Float → List Float → ℕ → Solved
normal_solved a b n = solution (system a b n) n n

-- number 8 for a system that is singular
abbrev pub solved_answer : Solved → Result Unit Refusal
solved_answer (Unknowns xs) = Ok tt
solved_answer (Singular col) = Err Degenerate

-- the unknowns, where there are any
abbrev pub unknowns_of : Solved → List Float
unknowns_of (Unknowns xs) = xs
unknowns_of (Singular col) = []

-- the tests before the solve, of the lengths of a, b and x: number 1 past 54 unknowns, 2 where a is not n by n or b not n, 7 for the room
unfoldable pub tests_answer : ℕ → ℕ → ℕ → ℕ → Result Unit Refusal
tests_answer a b n x =
    cond (ltb 54 n) (Err Count) (cond (eqb a (n * n) && eqb b n) (room_for n x) (Err Lengths))

-- the answer of `solve_normal_equations`, into a list of so many places
abbrev pub normal_answer : List Float → List Float → ℕ → ℕ → Result Unit Refusal
normal_answer a b n places = first (tests_answer (length a) (length b) n places) (solved_answer (normal_solved a b n))
