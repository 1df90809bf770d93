-- Worked examples, each by computation.
use Rattle.std.specs.Prelude.{ℕ, zero, suc, ◌≡◌, refl, true, false, List, [], ◌∷◌}
use Rattle.quad_visit.specs.Visit.{set_of, add_all}
use Rattle.quad_visit.specs.Visits.{bytes_of, first_visits}
use Rattle.quad_visit.specs.Met.{met_at, met, new_of}

-- the set of four places, whichever comes first, and its places
one_set : set_of 9 1 0 3 ≡ 0x00_01_03_09
unfolding set_of
one_set = refl

its_places : bytes_of 0x00_01_03_09 ≡ 0 ∷ 1 ∷ 3 ∷ 9 ∷ []
its_places = refl

-- of five visits the first of each set
three_first : first_visits [] (5 ∷ 7 ∷ 5 ∷ 9 ∷ 7 ∷ []) ≡ 5 ∷ 7 ∷ 9 ∷ []
three_first = refl

three_added : add_all [] (5 ∷ 7 ∷ 5 ∷ 9 ∷ 7 ∷ []) ≡ 5 ∷ 7 ∷ 9 ∷ []
three_added = refl

-- star 0 has 1, 2 and 3 for neighbours, and every other has 0, 2, 3 and 4
abbrev near : ℕ → List ℕ
near zero = 1 ∷ 2 ∷ 3 ∷ []
near (suc p) = 0 ∷ 2 ∷ 3 ∷ 4 ∷ []

-- at seed 1 the set with 0, 2 and 3 was met before: 0 has the other three
met_at_zero : met near 1 0 2 3 ≡ true
unfolding met met_at
met_at_zero = refl

-- not so with 0, 2 and 4, of which 0 has two, nor with 2, 3 and 4, which come after the seed
two_are_too_few : met near 1 0 2 4 ≡ false
unfolding met met_at
two_are_too_few = refl

none_is_smaller : met near 1 2 3 4 ≡ false
unfolding met met_at
none_is_smaller = refl

-- so that three of its four sets are new
three_new : new_of near 1 ≡ 0x00_01_02_04 ∷ 0x00_01_03_04 ∷ 0x01_02_03_04 ∷ []
unfolding new_of met met_at set_of
three_new = refl
