-- The first set of four places below n, and the step from a set to the one after it. Definitions only.
use Rattle.answer.specs.declared.Refusal.{Refusal}
use Rattle.std.specs.Prelude.{Bool, true, false, cond, ◌&&◌, ℕ, ◌+◌, ◌-◌, ltb, Result, Ok, Err}
use Rattle.answer.specs.Answers.{number_of}
use Rattle.answer.specs.declared.Refusal.TheVariants.{Count, Place}
use Rattle.quad_combinations.specs.declared.Set.{Set}
use Rattle.quad_combinations.specs.declared.State.{State}
use Rattle.quad_combinations.specs.declared.Step.{Step}

-- the set of four places
abbrev pub four : ℕ → ℕ → ℕ → ℕ → Set
four a b c d = record { a = a; b = b; c = c; d = d }

-- the state in which a set is to be given next
abbrev pub standing : ℕ → Set → State
standing n s = record { n = n; set = s; done = false }

-- the state in which none is left
abbrev pub ended : ℕ → Set → State
ended n s = record { n = n; set = s; done = true }

-- four rising places below n
unfoldable pub is_rising : ℕ → Set → Bool
is_rising n s = ltb s.a s.b && (ltb s.b s.c && (ltb s.c s.d && ltb s.d n))

-- at first the four lowest places are given next; below four places there is no set, and none is left
abbrev pub first_of : ℕ → State
first_of n = cond (ltb n 4) (ended n (four 0 0 0 0)) (standing n (four 0 1 2 3))

-- n above 100 is refused
unfoldable pub start_of : ℕ → Result State Refusal
start_of n = cond (ltb 100 n) (Err Count) (Ok (first_of n))

-- where no place can rise any more, none is left, and each place is one above its last
abbrev pub last_of : ℕ → State
last_of n = ended n (four (n - 3) (n - 2) (n - 1) n)

-- the last place that can rise does so by one, and those behind it follow in steps of one: a place can rise while there is room below n for those that follow it
unfoldable pub after_of : ℕ → Set → State
after_of n s =
    cond (ltb (s.d + 1) n) (standing n (four s.a s.b s.c (s.d + 1)))
    (cond (ltb (s.c + 2) n) (standing n (four s.a s.b (s.c + 1) (s.c + 2)))
    (cond (ltb (s.b + 3) n) (standing n (four s.a (s.b + 1) (s.b + 2) (s.b + 3)))
    (cond (ltb (s.a + 4) n) (standing n (four (s.a + 1) (s.a + 2) (s.a + 3) (s.a + 4)))
    (last_of n))))

-- the set that stands there and the state after it, or that none is left; refused for n above 100, then for a set that is not four rising places below n
unfoldable pub step_of : State → Result Step Refusal
step_of s =
    cond (ltb 100 s.n) (Err Count)
    (cond s.done (Ok (Step.Ended s))
    (cond (is_rising s.n s.set) (Ok (Step.Given s.set (after_of s.n s.set))) (Err Place)))

-- the number of a step's answer: that none is left is done too
abbrev pub step_number : Result Step Refusal → ℕ
step_number (Ok (Step.Given s t)) = 0
step_number (Ok (Step.Ended t)) = 0
step_number (Err why) = number_of why
