-- Worked examples, each by computation.
use Rattle.std.specs.Prelude.{◌≡◌, refl, [], ◌∷◌, replicate, Float, Ok, Err}
use Rattle.std.specs.Float.{nan, binary64}
use Rattle.std.specs.Float.Ieee.{of_bits, of_int, add, sub, mul, div, neg, lt, le, eq}
use Rattle.floats.specs.Magnitude.{magnitude_of}
use Rattle.root.specs.Root.{root_of}
use Rattle.domain.specs.Domain.{every}
use Rattle.answer.specs.declared.Refusal.TheVariants.{Count, Lengths, Value}
use Rattle.rows.specs.Rows.{Rows, rows, position_rows}
use Rattle.elimination_rows.specs.Matrix.{pivot_row}
use Rattle.elimination.specs.Elimination.{eliminate_from, row_less, unknowns_to}
use Rattle.cd_plate.specs.declared.Cd.{Cd}
use Rattle.cd_plate.specs.Plate.{nothing, determinant_of, is_cd, inverse_of, square_of}
use Rattle.cd_plate.specs.Filled.{filled}
use Rattle.cd_mask.specs.Marks.{ones}
use Rattle.cd_sums.specs.Sums.{unit, sums_to}
use Rattle.cd_fit.specs.Fit.{plate_fit, fit_of, weighed_answer}
use Rattle.cd_round.specs.Round.{squares_to, clip_of, any_rejected}
use Rattle.cd_clip.specs.declared.Clipped.TheVariants as clipped
use Rattle.cd_clip.specs.Clip.{round_of, ended, clip_from, clip_tests, sigma_clip}

-- 0.125, and 2 ^ -1074, the least weight above zero
abbrev eighth : Float
eighth = of_bits binary64 0x3fc0_0000_0000_0000

abbrev least : Float
least = of_bits binary64 1

-- a plate whose one shift is told
abbrev shifted : Float → Cd
shifted xi0 = record { cd1_1 = unit; cd1_2 = nothing; xi0 = xi0; cd2_1 = nothing; cd2_2 = unit; eta0 = nothing }

-- the plate that changes nothing
abbrev same : Cd
same = shifted nothing

-- P13: three rows (0.125,0,0,0), each of the least weight. The sum of their squares is rounded to zero, and so is the limit: all are rejected, and the clip is done.
abbrev eighths : Rows
eighths = rows (eighth ∷ eighth ∷ eighth ∷ []) (nothing ∷ nothing ∷ nothing ∷ []) (nothing ∷ nothing ∷ nothing ∷ []) (nothing ∷ nothing ∷ nothing ∷ [])

p13 : sigma_clip eighths (1 ∷ 1 ∷ 1 ∷ []) same (least ∷ least ∷ least ∷ []) ≡ ended (Ok (clipped.Done same)) (0 ∷ 0 ∷ 0 ∷ [])
unfolding clip_tests weighed_answer position_rows every is_cd clip_from round_of filled ones squares_to clip_of any_rejected determinant_of inverse_of square_of root_of of_bits of_int add sub mul div neg lt le eq
p13 = refl

-- rows of equal errors and weights are all within three times their rms: the first round rejects nothing
none_rejected : sigma_clip eighths (1 ∷ 1 ∷ 1 ∷ []) same (unit ∷ unit ∷ unit ∷ []) ≡ ended (Ok (clipped.Done same)) (1 ∷ 1 ∷ 1 ∷ [])
unfolding clip_tests weighed_answer position_rows every is_cd clip_from round_of filled ones squares_to clip_of any_rejected determinant_of inverse_of square_of root_of of_bits of_int add sub mul div neg lt le eq
none_rejected = refl

-- with two rows on nothing is tested
two_on : sigma_clip eighths (1 ∷ 0 ∷ 1 ∷ []) same (least ∷ least ∷ least ∷ []) ≡ ended (Ok (clipped.Done same)) (1 ∷ 0 ∷ 1 ∷ [])
unfolding clip_tests weighed_answer position_rows every is_cd clip_from round_of ones of_bits neg lt le eq
two_on = refl

-- the corners (0,0) (1,0) (0,1), each at its own point, and a row that misses its point by 0.125
abbrev corners : Rows
corners =
    rows (nothing ∷ unit ∷ nothing ∷ eighth ∷ []) (nothing ∷ nothing ∷ unit ∷ nothing ∷ []) (nothing ∷ unit ∷ nothing ∷ nothing ∷ []) (nothing ∷ nothing ∷ unit ∷ nothing ∷ [])

-- the first round rejects the last row, and the corners are fitted anew, which the sign of the shift shows; the second rejects nothing
fitted_anew : sigma_clip corners (1 ∷ 1 ∷ 1 ∷ 1 ∷ []) (shifted (neg nothing)) (unit ∷ unit ∷ unit ∷ least ∷ []) ≡ ended (Ok (clipped.Done same)) (1 ∷ 1 ∷ 1 ∷ 0 ∷ [])
unfolding clip_tests weighed_answer position_rows every is_cd clip_from round_of filled ones squares_to clip_of any_rejected fit_of plate_fit sums_to pivot_row eliminate_from row_less unknowns_to magnitude_of determinant_of inverse_of square_of root_of of_bits of_int add sub mul div neg lt le eq
fitted_anew = refl

-- number 8: corners of the least weight cannot be fitted; the rejection is kept, and the plate handed back
stopped : sigma_clip corners (1 ∷ 1 ∷ 1 ∷ 1 ∷ []) (shifted (neg nothing)) (least ∷ least ∷ least ∷ least ∷ []) ≡ ended (Ok (clipped.Stopped (shifted (neg nothing)))) (1 ∷ 1 ∷ 1 ∷ 0 ∷ [])
unfolding clip_tests weighed_answer position_rows every is_cd clip_from round_of filled ones squares_to clip_of any_rejected fit_of plate_fit sums_to pivot_row eliminate_from row_less unknowns_to magnitude_of determinant_of inverse_of square_of root_of of_bits of_int add sub mul div neg lt le eq
stopped = refl

-- the refusals in their order, which keep the mask
too_many : sigma_clip eighths (2 ∷ []) (shifted nan) (replicate 101 nan) ≡ ended (Err Count) (2 ∷ [])
unfolding clip_tests weighed_answer
too_many = refl

unlike_lengths : sigma_clip eighths (2 ∷ []) (shifted nan) [] ≡ ended (Err Lengths) (2 ∷ [])
unfolding clip_tests weighed_answer
unlike_lengths = refl

no_plate : sigma_clip eighths (1 ∷ 1 ∷ 1 ∷ []) (shifted nan) (unit ∷ unit ∷ unit ∷ []) ≡ ended (Err Value) (1 ∷ 1 ∷ 1 ∷ [])
unfolding clip_tests weighed_answer position_rows every is_cd of_bits neg lt le eq
no_plate = refl
