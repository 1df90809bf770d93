-- `scan_digits::of_bits` meets its contract: the two tests of `nan_bits`, in its own words.
use lib.Ieee.{div, of_bits}
use Rattle.scan_digits.proofs.Reading.{bits_plain, bits_whole, bits_nan}
use Rattle.scan_digits.proofs.of_bits.Goals as goal

pub float_from_bits-result : goal.float_from_bits-result
float_from_bits-result c = bits_plain _ c.if-n-ne2047.true

pub float_from_bits-result-then-n-eq0 : goal.float_from_bits-result-then-n-eq0
float_from_bits-result-then-n-eq0 c = bits_whole _ c.if-n-eq0.true

pub returns : goal.returns
unfolding div of_bits
returns c = bits_nan _ c.if-n-ne2047.false c.if-n-eq0.false
