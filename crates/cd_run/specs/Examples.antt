-- Worked examples, each by computation.
use Rattle.std.specs.Prelude.{◌≡◌, refl, List, [], ◌∷◌, ℕ, replicate, Float, Ok, Err}
use Rattle.std.specs.Float.{nan, binary64}
use Rattle.std.specs.Float.Ieee.{of_bits, add, sub, mul, div, neg, lt, le, eq}
use Rattle.floats.specs.Magnitude.{magnitude_of}
use Rattle.root.specs.Root.{root_of}
use Rattle.domain.specs.Domain.{every}
use Rattle.answer.specs.declared.Refusal.TheVariants.{Count, Lengths, Value, Room, Few}
use Rattle.rows.specs.Rows.{Rows, rows, position_rows}
use Rattle.draw.specs.Draw.{next_word, triple_after, triples}
use Rattle.draw.specs.Best.{improved, keep_if, keep, run}
use Rattle.elimination_rows.specs.Matrix.{pivot_row}
use Rattle.elimination.specs.Elimination.{eliminate_from, row_less, unknowns_to}
use Rattle.cd_plate.specs.Plate.{nothing, determinant_of, inverse_of, square_of}
use Rattle.cd_pool.specs.Pool.{greatest, least_of, places_from, pool_of}
use Rattle.cd_mask.specs.Marks.{marks, ones}
use Rattle.cd_sums.specs.Sums.{unit, sums_to}
use Rattle.cd_fit.specs.Fit.{plate_fit, fit_of}
use Rattle.cd_trial.specs.Trial.{triple_marks, fit_marked, fit_places, fit_again}
use Rattle.cd_run.specs.declared.CdRun.TheVariants.{Fitted, Untested}
use Rattle.cd_run.specs.Run.{tests_of, held_end, pool_end, run_end, run_answer, mask_after}

-- the corners (0,0) (1,0) (0,1), each at its own point, and a row at (1,1) that is at (0,0)
abbrev corners : Rows
corners =
    rows (nothing ∷ unit ∷ nothing ∷ unit ∷ []) (nothing ∷ nothing ∷ unit ∷ unit ∷ []) (nothing ∷ unit ∷ nothing ∷ nothing ∷ []) (nothing ∷ nothing ∷ unit ∷ nothing ∷ [])

-- 0.5
abbrev half : Float
half = of_bits binary64 0x3fe0_0000_0000_0000

-- a mask of a place more than rows
abbrev sevens : List ℕ
sevens = replicate 5 7

-- P9: the pool is one row, so the run is untested
untested_four : run_answer corners (30 ∷ 9 ∷ 9 ∷ 9 ∷ []) half 100 5 ≡ Ok (Untested 4)
unfolding run_end tests_of pool_end pool_of places_from least_of greatest position_rows every of_bits neg lt le eq
untested_four = refl

-- and every row's byte is one
untested_mask : mask_after corners (30 ∷ 9 ∷ 9 ∷ 9 ∷ []) half 100 sevens ≡ 1 ∷ 1 ∷ 1 ∷ 1 ∷ 7 ∷ []
unfolding run_end tests_of pool_end pool_of places_from least_of greatest position_rows every of_bits neg lt le eq
untested_mask = refl

-- no rows: untested too
no_rows : run_answer (rows [] [] [] []) (3 ∷ 3 ∷ 3 ∷ []) half 100 0 ≡ Ok (Untested 0)
unfolding run_end tests_of pool_end pool_of places_from least_of greatest position_rows every of_bits neg lt le eq
no_rows = refl

-- number 9: no trials; and two, both skipped
no_trials : run_answer corners (3 ∷ 3 ∷ 3 ∷ 0 ∷ []) half 0 4 ≡ Err Few
unfolding run_end tests_of pool_end held_end pool_of places_from least_of greatest triples run position_rows every of_bits neg lt le eq
no_trials = refl

both_skipped : run_answer corners (3 ∷ 3 ∷ 3 ∷ 0 ∷ []) half 2 4 ≡ Err Few
unfolding run_end tests_of pool_end held_end pool_of places_from least_of greatest triples triple_after next_word run keep fit_places position_rows every of_bits neg lt le eq
both_skipped = refl

-- the third trial fits the three corners, and the fourth row is off
third_fits : run_answer corners (3 ∷ 3 ∷ 3 ∷ 0 ∷ []) half 3 4 ≡ Ok (Fitted 3)
unfolding run_end tests_of pool_end held_end pool_of places_from least_of greatest triples triple_after next_word run keep keep_if improved fit_places fit_marked fit_again triple_marks marks ones fit_of plate_fit determinant_of inverse_of square_of root_of sums_to pivot_row eliminate_from row_less unknowns_to magnitude_of position_rows every of_bits add sub mul div neg lt le eq
third_fits = refl

third_mask : mask_after corners (3 ∷ 3 ∷ 3 ∷ 0 ∷ []) half 3 sevens ≡ 1 ∷ 1 ∷ 1 ∷ 0 ∷ 7 ∷ []
unfolding run_end tests_of pool_end held_end pool_of places_from least_of greatest triples triple_after next_word run keep keep_if improved fit_places fit_marked fit_again triple_marks marks ones fit_of plate_fit determinant_of inverse_of square_of root_of sums_to pivot_row eliminate_from row_less unknowns_to magnitude_of position_rows every of_bits add sub mul div neg lt le eq
third_mask = refl

-- the refusals in their order; the mask stays
many_trials : run_answer corners (replicate 4 3) nan 1001 0 ≡ Err Count
unfolding run_end tests_of
many_trials = refl

many_votes : run_answer corners (replicate 101 3) nan 3 0 ≡ Err Count
unfolding run_end tests_of
many_votes = refl

unlike_lengths : run_answer (rows [] (nan ∷ []) [] []) [] nan 3 0 ≡ Err Lengths
unfolding run_end tests_of
unlike_lengths = refl

no_limit : run_answer corners (3 ∷ 3 ∷ 3 ∷ 0 ∷ []) nan 3 0 ≡ Err Value
unfolding run_end tests_of position_rows every of_bits neg lt le eq
no_limit = refl

no_room : run_answer corners (3 ∷ 3 ∷ 3 ∷ 0 ∷ []) half 3 3 ≡ Err Room
unfolding run_end tests_of position_rows every of_bits neg lt le eq
no_room = refl

mask_stays : mask_after corners (3 ∷ 3 ∷ 3 ∷ 0 ∷ []) half 1001 sevens ≡ sevens
unfolding run_end tests_of
mask_stays = refl
