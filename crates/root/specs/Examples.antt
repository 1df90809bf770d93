-- Worked examples, each by computation.
use Rattle.std.specs.Prelude.{◌≡◌, refl, false, pos, negsuc}
use Rattle.std.specs.Float.{fin, binary64}
use Rattle.std.specs.Float.Ieee.{of_bits}
use Rattle.root.specs.Root.{root_of}

-- the roots of 4, 2, the least f64 above zero, the greatest finite f64 and -0.0
of_four : root_of (fin false 1 (pos 2)) ≡ fin false 1 (pos 1)
unfolding root_of
of_four = refl

of_two : root_of (fin false 1 (pos 1)) ≡ of_bits binary64 0x3ff6_a09e_667f_3bcd
unfolding root_of of_bits
of_two = refl

of_least : root_of (fin false 1 (negsuc 1073)) ≡ fin false 1 (negsuc 536)
unfolding root_of
of_least = refl

of_greatest : root_of (of_bits binary64 0x7fef_ffff_ffff_ffff) ≡ of_bits binary64 0x5fef_ffff_ffff_ffff
unfolding root_of of_bits
of_greatest = refl

of_minus_zero : root_of (of_bits binary64 0x8000_0000_0000_0000) ≡ of_bits binary64 0x8000_0000_0000_0000
unfolding root_of of_bits
of_minus_zero = refl
