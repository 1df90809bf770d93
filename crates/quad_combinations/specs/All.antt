-- Every set of four places below n, in rising order; and what a number of steps gives. Definitions only.
use Rattle.answer.specs.declared.Refusal.{Refusal}
use Rattle.std.specs.Prelude.{◌≡◌, ◌⊎◌, true, ℕ, zero, suc, ◌-◌, ◌≤◌, ◌<◌, length, take, get_or, Ok, Result, Err}
use mathlib.Core.List.{List, [], ◌∷◌, ◌++◌, Memᴰ}
use Rattle.quad_combinations.specs.declared.Set.{Set}
use Rattle.quad_combinations.specs.declared.State.{State}
use Rattle.quad_combinations.specs.declared.Step.{Step}
use Rattle.quad_combinations.specs.declared.Step.TheVariants.{Given, Ended}
use Rattle.quad_combinations.specs.Combinations.{four, is_rising, first_of, last_of, start_of, step_of}

-- what f gives for k numbers from i on, one after another
unfoldable pub over : (ℕ → List Set) → ℕ → ℕ → List Set
over f i zero = []
over f i (suc k) = f i ++ over f (suc i) k

-- what f gives for each number from i on that is below n
abbrev pub each : ℕ → ℕ → (ℕ → List Set) → List Set
each n i f = over f i (n - i)

-- all sets of four rising places below n, the last place fastest
unfoldable pub sets_below : ℕ → List Set
sets_below n = each n 0 (λ a. each n (suc a) (λ b. each n (suc b) (λ c. each n (suc c) (λ d. four a b c d ∷ []))))

-- the set at a place of the list
abbrev pub set_at : List Set → ℕ → Set
set_at l i = get_or l i (four 0 0 0 0)

-- x is the lower, or they are equal and the rest decides
abbrev pub lower : ℕ → ℕ → Type 0 → Type 0
lower x y rest = (x < y) ⊎ ((x ≡ y) × rest)

-- s comes before t: it has the lower place where they first differ
abbrev pub Before : Set → Set → Type 0
Before s t = lower s.a t.a (lower s.b t.b (lower s.c t.c (s.d < t.d)))

-- a step's set, and then those that f gives from the state after it
abbrev pub given_by : (State → List Set) → Result Step Refusal → List Set
given_by f (Ok (Given s t)) = s ∷ f t
given_by f (Ok (Ended t)) = []
given_by f (Err why) = []

-- the sets that k steps give
unfoldable pub run : ℕ → State → List Set
run zero s = []
run (suc k) s = given_by (run k) (step_of s)

-- the state after a step; a refused one leaves it as it is
abbrev pub left_by : State → Result Step Refusal → State
left_by s (Ok (Given x t)) = t
left_by s (Ok (Ended t)) = t
left_by s (Err why) = s

-- the state after k steps
unfoldable pub state_after : ℕ → State → State
state_after zero s = s
state_after (suc k) s = state_after k (left_by s (step_of s))

-- from the start the steps give every set of four places below n exactly once, in rising order
pub record AllGiven (n : ℕ) : Type 0 where
  -- the start is not refused
  pub starts : start_of n ≡ Ok (first_of n)
  -- k steps give the first k sets of the list
  pub given : (k : ℕ) → run k (first_of n) ≡ take k (sets_below n)
  -- as many steps as there are sets, or more, give the whole list
  pub whole : (k : ℕ) → length (sets_below n) ≤ k → run k (first_of n) ≡ sets_below n
  -- when all have been given the steps rest, and each answers that none is left
  pub rests : (k : ℕ) → length (sets_below n) ≤ k → step_of (state_after k (first_of n)) ≡ Ok (Step.Ended (state_after k (first_of n)))
  -- after the last set each place has been raised by one
  pub last : 4 ≤ n → (k : ℕ) → length (sets_below n) ≤ k → state_after k (first_of n) ≡ last_of n
  -- the list has only sets of four rising places below n
  pub only : (s : Set) → Memᴰ s (sets_below n) → is_rising n s ≡ true
  -- the list has every such set
  pub every : (s : Set) → is_rising n s ≡ true → Memᴰ s (sets_below n)
  -- the list rises
  pub rises : (i j : ℕ) → i < j → j < length (sets_below n) → Before (set_at (sets_below n) i) (set_at (sets_below n) j)
  -- and so has no set twice
  pub once : (i j : ℕ) → i < length (sets_below n) → j < length (sets_below n) → set_at (sets_below n) i ≡ set_at (sets_below n) j → i ≡ j
