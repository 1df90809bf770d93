-- The settled examples P1 to P13, an index, and exact cases of the sums, the elimination and the polynomials, as one table over the written meanings, each row by computation.
use Rattle.std.specs.Prelude.{◌≡◌, refl, List, [], ◌∷◌, ℕ, pos, Float, Ok}
use Rattle.std.specs.Float.{binary64}
use Rattle.std.specs.Float.Ieee.{of_bits, of_int, to_signed, neg, mul, add, sub, div, lt, eq, le}
use Rattle.floats.specs.Magnitude.{magnitude_of}
use Rattle.floats.specs.Power.{power_of}
use Rattle.root.specs.Root.{root_of}
use Rattle.rows.specs.Rows.{Rows, rows, position_rows}
use Rattle.elimination_rows.specs.Matrix.{cells, pivot_row}
use Rattle.elimination.specs.Elimination.{eliminate_from, row_less, unknowns_to, Unknowns, solution}
use Rattle.cd_plate.specs.declared.Cd.{Cd}
use Rattle.cd_plate.specs.Plate.{determinant_of, is_cd, inverse_of, square_of}
use Rattle.cd_plate.specs.Filled.{filled}
use Rattle.cd_mask.specs.Marks.{ones}
use Rattle.cd_sums.specs.Sums.{eta_of, sums_to, weighted_sums}
use Rattle.cd_fit.specs.Fit.{weighed_answer}
use Rattle.cd_round.specs.Round.{squares_to, clip_of, any_rejected}
use Rattle.cd_clip.specs.declared.Clipped.TheVariants as clipped
use Rattle.cd_clip.specs.Clip.{round_of, ended, clip_from, clip_tests, sigma_clip}
use Rattle.floats.specs.Floor.{floor_of}
use Rattle.domain.specs.Domain.{every}
use Rattle.quad_stars.specs.Stars.{star_at, four_at, dist_sq, places_of, stars_answer, places_answer, four_answer}
use Rattle.quad_spine.specs.Spine.{longer, longest, in_order_of, oriented, spine_of, spine_answer}
use Rattle.quad_normal.specs.Normal.{along, across, c_first, hash_of, least_scale, scaled_by, normal_of, normal_answer}
use Rattle.quad_key.specs.declared.Hash.{Hash}
use Rattle.quad_key.specs.Key.{lane_of, key_of, neighbour_key}
use Rattle.hash_lanes.specs.Lanes.{hash_at}
use Rattle.index_table.specs.Table.{turned, quad_key, by_key, table_of}
use Rattle.sip_terms.specs.Terms.{term_at, value_to, value_of}
use Rattle.cd_pool.specs.Pool.{greatest, least_of, places_from, pool_of}
use Rattle.draw.specs.Draw.{next_word}
use Rattle.aggregate_votes.specs.Votes.{Ids, ids, Vote, votes_of, votes_for, counts, is_for, votes_at}
use Rattle.aggregate_best.specs.Best.{id_of, better, choose}
use Rattle.aggregate_choice.specs.Choice.{claim, paired, chosen_by, pairs_of}

-- the float of a pattern
abbrev float : ℕ → Float
float bits = of_bits binary64 bits

-- 0.0
abbrev zero : Float
zero = float 0

-- 0.5
abbrev half : Float
half = float 0x3fe0_0000_0000_0000

-- 1.0
abbrev one : Float
one = float 0x3ff0_0000_0000_0000

-- the square (0,0) (1,0) (0,1) (1,1), its x
abbrev xs : List Float
xs = zero ∷ one ∷ zero ∷ one ∷ []

-- and its y
abbrev ys : List Float
ys = zero ∷ zero ∷ one ∷ one ∷ []

-- its hash
abbrev square : Hash
square = record { h0 = half; h1 = neg half; h2 = half; h3 = half }

-- the hashes of three quads: the square's, one of zeros, and the square's again
abbrev squares : List Float
squares = half ∷ neg half ∷ half ∷ half ∷ zero ∷ zero ∷ zero ∷ zero ∷ half ∷ neg half ∷ half ∷ half ∷ []

-- detections 0 and 1, and catalogue ids 7 and 9
abbrev stars : Ids
stars = ids (0 ∷ 1 ∷ []) (pos 7 ∷ pos 9 ∷ []) (pos 7 ∷ pos 9 ∷ [])

-- the votes of two matches; the last is for places that do not exist
abbrev votes : List Vote
votes = votes_of (0 ∷ 0 ∷ 0 ∷ 1 ∷ 0 ∷ 0 ∷ 0 ∷ 0 ∷ 1 ∷ 1 ∷ 1 ∷ 255 ∷ 0 ∷ 1 ∷ 1 ∷ 255 ∷ [])

-- three rows at one pixel, whose points are (0, 0)
abbrev eighths : Rows
eighths =
    let eighth = float 0x3fc0_0000_0000_0000 in
    rows (eighth ∷ eighth ∷ eighth ∷ []) (zero ∷ zero ∷ zero ∷ []) (zero ∷ zero ∷ zero ∷ []) (zero ∷ zero ∷ zero ∷ [])

-- the least weight
abbrev least : Float
least = float 1

-- the plate that changes nothing
abbrev same : Cd
same = record { cd1_1 = one; cd1_2 = zero; xi0 = zero; cd2_1 = zero; cd2_2 = one; eta0 = zero }

-- a whole number as a float
abbrev whole : ℕ → Float
whole n = of_int binary64 (pos n)

-- a row at pixel (2, 3) of the point (5, 7), and one at (1, 0) of (0, 1), with weights 2 and 4
abbrev two : Rows
two = rows (whole 2 ∷ whole 1 ∷ []) (whole 3 ∷ whole 0 ∷ []) (whole 5 ∷ whole 0 ∷ []) (whole 7 ∷ whole 1 ∷ [])

-- the rows
pub record Table : Type 0 where
  -- P1: the square's spine is 0 and 3, and its hash 0.5, -0.5, 0.5, 0.5
  pub p1_spine : spine_answer xs ys 0 1 2 3 ≡ Ok (record { a = 0; b = 3; c = 1; d = 2 })
  pub p1_hash : normal_answer xs ys 0 3 1 2 ≡ Ok (record { h0 = half; h1 = neg half; h2 = half; h3 = half; a = 0; b = 3; c = 1; d = 2 })
  -- P2: its key number 0
  pub p2 : neighbour_key square 0 ≡ 0x0225_0225_01c1_0225
  -- P3: its key number 40 is its own
  pub p3 : neighbour_key square 40 ≡ key_of square
  -- the index of the square's quad, one of zeros and the square's again: the keys, lane 0 highest, and the places
  pub index : table_of squares 3 ≡ 0x01f4_01f4_01f4_01f4 ∷ 0x0226_01c2_0226_0226 ∷ 0x0226_01c2_0226_0226 ∷ 1 ∷ 0 ∷ 2 ∷ []
  -- P4 to P8: the lanes of -0.001, -5.5, 655, 1e300 and -1e300, the last as for 0
  pub p4 : lane_of (float 0xbf50_624d_d2f1_a9fc) 1 ≡ 499
  pub p5 : lane_of (float 0xc016_0000_0000_0000) 1 ≡ 65486
  pub p6 : lane_of (float 0x4084_7800_0000_0000) 1 ≡ 464
  pub p7 : lane_of (float 0x7e37_e43c_8800_759c) 1 ≡ 499
  pub p8 : lane_of (float 0xfe37_e43c_8800_759c) 1 ≡ 500
  pub p8_zero : lane_of zero 1 ≡ 500
  -- P9 and P10: of four rows with votes 30, 9, 9, 9 the first alone is in the pool; with 30, 10, 10, 9 the first three
  pub p9 : pool_of (30 ∷ 9 ∷ 9 ∷ 9 ∷ []) 4 ≡ 0 ∷ []
  pub p10 : pool_of (30 ∷ 10 ∷ 10 ∷ 9 ∷ []) 4 ≡ 0 ∷ 1 ∷ 2 ∷ []
  -- P11: the word after 1
  pub p11 : next_word 1 ≡ 0x4082_2041
  -- P12: detection 0 has three votes for 7, and detection 1 two for 7 and two for 9: only the pair (0, 7)
  pub p12_first : votes_for stars votes 0 (pos 7) ≡ 3
  pub p12_second : votes_for stars votes 1 (pos 7) ≡ 2
  pub p12_third : votes_for stars votes 1 (pos 9) ≡ 2
  pub p12 : pairs_of stars votes 2 ≡ 0 ∷ []
  pub p12_id : id_of stars.results (chosen_by stars votes 0) ≡ pos 7
  -- P13: under the unit CD three rows (0.125,0,0,0) of weight 2 ^ -1074: the clip turns all off, and is done
  pub p13 : sigma_clip eighths (1 ∷ 1 ∷ 1 ∷ []) same (least ∷ least ∷ least ∷ []) ≡ ended (Ok (clipped.Done same)) (0 ∷ 0 ∷ 0 ∷ [])
  -- exact: the weighted sums of the eta axis over the two rows, no step of which rounds
  pub exact_sums : weighted_sums two (1 ∷ 1 ∷ []) (whole 2 ∷ whole 4 ∷ []) eta_of 2 ≡ record { uu = whole 12; uv = whole 12; u = whole 8; vv = whole 18; v = whole 6; one = whole 6; ub = whole 32; vb = whole 42; b = whole 18 }
  -- exact: 2 x + y = 5 and 4 x + 3 y = 13 have the unknowns 1 and 3; the second row is brought up
  pub exact_unknowns : solution (cells (whole 2 ∷ whole 1 ∷ whole 5 ∷ whole 4 ∷ whole 3 ∷ whole 13 ∷ []) 3) 2 2 ≡ Unknowns (whole 1 ∷ whole 3 ∷ [])
  -- exact: 2 u^2 + 3 u v + 5 v^2 at (7, 11) is 934
  pub exact_polynomial : value_of (whole 2 ∷ whole 3 ∷ whole 5 ∷ []) (whole 7) (whole 11) ≡ whole 934

-- each row holds by computation
pub table : Table
unfolding spine_answer normal_answer four_answer stars_answer places_answer every star_at four_at dist_sq longer longest in_order_of oriented spine_of places_of along across c_first hash_of least_scale scaled_by normal_of neighbour_key key_of lane_of table_of by_key quad_key turned hash_at floor_of to_signed of_int of_bits neg mul add sub div lt eq le pool_of places_from least_of greatest next_word votes_of counts is_for votes_at better choose claim paired pairs_of clip_tests weighed_answer position_rows is_cd clip_from round_of filled ones squares_to clip_of any_rejected determinant_of inverse_of square_of root_of sums_to magnitude_of power_of pivot_row eliminate_from row_less unknowns_to term_at value_to
table = record {
  p1_spine = refl;
  p1_hash = refl;
  p2 = refl;
  p3 = refl;
  index = refl;
  p4 = refl;
  p5 = refl;
  p6 = refl;
  p7 = refl;
  p8 = refl;
  p8_zero = refl;
  p9 = refl;
  p10 = refl;
  p11 = refl;
  p12_first = refl;
  p12_second = refl;
  p12_third = refl;
  p12 = refl;
  p12_id = refl;
  p13 = refl;
  exact_sums = refl;
  exact_unknowns = refl;
  exact_polynomial = refl;
}
