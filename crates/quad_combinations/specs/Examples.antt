-- Worked examples, each by computation.
use Rattle.quad_combinations.specs.declared.State.{State}
use Rattle.std.specs.Prelude.{◌≡◌, refl, [], ◌∷◌, Ok, Err}
use Rattle.answer.specs.declared.Refusal.TheVariants.{Count, Place}
use Rattle.quad_combinations.specs.declared.Step.{Step}
use Rattle.quad_combinations.specs.Combinations.{four, standing, ended, is_rising, first_of, start_of, after_of, step_of}
use Rattle.quad_combinations.specs.All.{over, sets_below, run, state_after}

-- three places have no set of four
three : start_of 3 ≡ Ok (ended 3 (four 0 0 0 0))
unfolding start_of
three = refl

none_of_three : sets_below 3 ≡ []
unfolding sets_below over
none_of_three = refl

-- four have one; after it each place has been raised
one_of_four : step_of (standing 4 (four 0 1 2 3)) ≡ Ok (Step.Given (four 0 1 2 3) (ended 4 (four 1 2 3 4)))
unfolding step_of is_rising after_of
one_of_four = refl

-- five have five
five_of_five : run 9 (first_of 5) ≡ four 0 1 2 3 ∷ four 0 1 2 4 ∷ four 0 1 3 4 ∷ four 0 2 3 4 ∷ four 1 2 3 4 ∷ []
unfolding run step_of is_rising after_of
five_of_five = refl

after_five : state_after 5 (first_of 5) ≡ ended 5 (four 2 3 4 5)
unfolding state_after step_of is_rising after_of
after_five = refl

-- a carry over two places
carried : step_of (standing 9 (four 1 3 7 8)) ≡ Ok (Step.Given (four 1 3 7 8) (standing 9 (four 1 4 5 6)))
unfolding step_of is_rising after_of
carried = refl

-- refused: 101 places; a place that does not rise; one that is not below n
too_many : step_of (ended 101 (four 0 0 0 0)) ≡ Err Count
unfolding step_of
too_many = refl

not_rising : step_of (standing 9 (four 1 1 2 3)) ≡ Err Place
unfolding step_of is_rising
not_rising = refl

too_high : step_of (standing 9 (four 1 2 3 9)) ≡ Err Place
unfolding step_of is_rising
too_high = refl
