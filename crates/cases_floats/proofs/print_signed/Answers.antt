-- `cases_floats::print_signed` is safe: the line has at most a sign, 20 digits and a newline. Assumes nothing.
use mathlib.Core.Path.{sym, subst}
use native.Mathlib.Nat.{lt_of_lt_of_le}
use native.Mathlib.Omega.{arith}
use lib.Dec.{lit≤}
use lib.IntN.{ℤ}
use lib.Seq.{length-take-le}
use mir.Syntax.{w32, w64}
use mir.Val.{SFits, to_z, of_z}
use mir.ValLaws.{to_z-of_z}
use Rattle.put.proofs.Writing.{put_length}
use Rattle.digits.proofs.Signed.{length_signed_most}
use Rattle.cases_floats.proofs.print_signed.Goals as goal

-- a number of 32 bits has room in 64
wider : (z : ℤ) → SFits w32 z → SFits w64 (to_z w32 (of_z w32 z))
wider z f = subst (λ (y : ℤ). SFits w64 y) (sym (to_z-of_z w32 z f)) (record { sfits = lt_of_lt_of_le f.sfits (lit≤ tt) })

pub overflow_cast-n : goal.overflow_cast-n
overflow_cast-n c = wider c.args.n c.ranges.n

pub put_signed-p-requires : goal.put_signed-p-requires
put_signed-p-requires c = record { room = omega (arith, length_signed_most (to_z w64 (of_z w64 (to_z w32 (of_z w32 c.args.n))))) }

pub put_byte-q-requires : goal.put_byte-q-requires
put_byte-q-requires c =
    record { room = omega (arith, c.put_signed-p.ensures.next_is, length_signed_most (to_z w64 (of_z w64 (to_z w32 (of_z w32 c.args.n)))), put_length c.put_signed-p.ensures) }

-- what is printed is in the buffer
pub slice_bounds-line-end : goal.slice_bounds-line-end
slice_bounds-line-end c =
    omega (arith, c.put_byte-q.ensures.next_is, c.put_signed-p.ensures.next_is, length_signed_most (to_z w64 (of_z w64 (to_z w32 (of_z w32 c.args.n)))), put_length c.put_byte-q.ensures, put_length c.put_signed-p.ensures)

pub slice_bounds-write_all-end : goal.slice_bounds-write_all-end
slice_bounds-write_all-end c =
    sym (length-take-le _ _ (omega (arith, c.put_byte-q.ensures.next_is, c.put_signed-p.ensures.next_is, length_signed_most (to_z w64 (of_z w64 (to_z w32 (of_z w32 c.args.n)))), put_length c.put_byte-q.ensures, put_length c.put_signed-p.ensures)))
