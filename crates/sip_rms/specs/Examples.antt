-- Worked examples, each by computation.
use Rattle.std.specs.Prelude.{◌≡◌, refl, [], ◌∷◌, ℕ, pos, Float}
use Rattle.std.specs.Float.{nan, binary64}
use Rattle.std.specs.Float.Ieee.{of_bits, of_int, add, mul, div, lt}
use Rattle.root.specs.Root.{root_of}
use Rattle.cd_mask.specs.Marks.{ones}
use Rattle.sip_rms.specs.Rms.{totals_to, sip_of}

-- a whole number as a float
abbrev f : ℕ → Float
f k = of_int binary64 (pos k)

-- errors 7 and 1 of snr 0 and 2, and a row that is off: the mean square is 25, and all the weight is on the second
two : sip_of (f 7) (f 0 ∷ f 9 ∷ f 2 ∷ []) (1 ∷ 0 ∷ 1 ∷ []) (f 7 ∷ nan ∷ f 1 ∷ []) ≡ record { rows_used = 2; linear_rms = f 7; rms = f 5; wrms = f 1 }
unfolding sip_of totals_to ones root_of of_bits of_int add mul div lt
two = refl

-- weights that come to nothing
weightless : sip_of (f 7) (f 0 ∷ []) (1 ∷ []) (f 4 ∷ []) ≡ record { rows_used = 1; linear_rms = f 7; rms = f 4; wrms = f 0 }
unfolding sip_of totals_to ones root_of of_bits of_int add mul div lt
weightless = refl

-- no row that is on
rowless : sip_of (f 7) (f 1 ∷ []) (0 ∷ []) (f 4 ∷ []) ≡ record { rows_used = 0; linear_rms = f 7; rms = f 0; wrms = f 0 }
unfolding sip_of totals_to ones root_of of_bits of_int add mul div lt
rowless = refl
