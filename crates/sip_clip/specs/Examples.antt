-- Worked examples, each by computation.
use Rattle.std.specs.Prelude.{◌≡◌, refl, List, [], ◌∷◌, ℕ, pos, Float}
use Rattle.std.specs.Float.{nan, binary64}
use Rattle.std.specs.Float.Ieee.{of_bits, of_int, add, sub, mul, div, lt}
use Rattle.floats.specs.Magnitude.{magnitude_of}
use Rattle.floats.specs.Power.{power_of}
use Rattle.root.specs.Root.{root_of}
use Rattle.cd_mask.specs.Marks.{ones}
use Rattle.cd_plate.specs.Filled.{filled}
use Rattle.sip_terms.specs.Terms.{term_at, value_to}
use Rattle.sip_clip.specs.Clip.{error_of, weighed_to, rejected_to, clipped, clip_of}

-- a whole number as a float
abbrev f : ℕ → Float
f k = of_int binary64 (pos k)

-- du 10 less u^2 + 3 u v, and dv 9 less v^2, at (1, 1): 6 and 8 are left
an_error : error_of (f 1 ∷ f 3 ∷ f 0 ∷ []) (f 0 ∷ f 0 ∷ f 1 ∷ []) (record { u = f 1; v = f 1; du = f 10; dv = f 9 }) ≡ f 10
unfolding error_of value_to term_at power_of magnitude_of root_of of_bits of_int add sub mul div lt
an_error = refl

-- eight rows of snr 1
abbrev ones8 : List Float
ones8 = f 1 ∷ f 1 ∷ f 1 ∷ f 1 ∷ f 1 ∷ f 1 ∷ f 1 ∷ f 1 ∷ []

-- the third has this error, and the others none
abbrev far : Float → List Float
far e = f 0 ∷ f 0 ∷ e ∷ f 0 ∷ f 0 ∷ f 0 ∷ f 0 ∷ f 0 ∷ []

-- 8 is past 2.5 times the root of 64 / 8
one_off : clip_of ones8 (1 ∷ 1 ∷ 1 ∷ 1 ∷ 1 ∷ 1 ∷ 1 ∷ 1 ∷ []) (far (f 8)) ≡ clipped (1 ∷ 1 ∷ 0 ∷ 1 ∷ 1 ∷ 1 ∷ 1 ∷ 1 ∷ []) 1
unfolding clip_of filled weighed_to rejected_to ones root_of of_bits of_int add mul div lt
one_off = refl

-- a row that is off is neither counted nor turned off
off_already : clip_of ones8 (1 ∷ 1 ∷ 0 ∷ 1 ∷ 1 ∷ 1 ∷ 1 ∷ 1 ∷ []) (far (f 8)) ≡ clipped (1 ∷ 1 ∷ 0 ∷ 1 ∷ 1 ∷ 1 ∷ 1 ∷ 1 ∷ []) 0
unfolding clip_of filled weighed_to rejected_to ones root_of of_bits of_int add mul div lt
off_already = refl

-- an error of NaN is past no limit, and makes the limit NaN
nan_stays : clip_of ones8 (1 ∷ 1 ∷ 1 ∷ 1 ∷ 1 ∷ 1 ∷ 1 ∷ 1 ∷ []) (far nan) ≡ clipped (1 ∷ 1 ∷ 1 ∷ 1 ∷ 1 ∷ 1 ∷ 1 ∷ 1 ∷ []) 0
unfolding clip_of filled weighed_to rejected_to ones root_of of_bits of_int add mul div lt
nan_stays = refl
