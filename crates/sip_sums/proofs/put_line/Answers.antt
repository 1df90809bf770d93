-- `sip_sums::put_line` meets its contract: the basis is filled from the powers, and two numbers are stored behind it. Assumes nothing.
use Rattle.sip_sums.proofs.Lines.{line_put}
use lib.Seq.{length-take-le}
use lib.ListN.{length-set}
use native.Mathlib.Omega.{arith}
use mathlib.Core.Path.{◌∙◌, sym}
use borrow.Author.Rules.{rules}
use Rattle.sip_sums.proofs.put_line.Goals as goal

pub slice_bounds-put_basis-end-4 : goal.slice_bounds-put_basis-end-4
slice_bounds-put_basis-end-4 c = sym (length-take-le _ _ (omega arith))

pub put_basis-requires : goal.put_basis-requires
put_basis-requires c = let a = c.args in record { up_len = search rules; out_len_bound = omega (arith, length-take-le a.n a.line.now (omega arith)) }

pub bounds-line-n-2 : goal.bounds-line-n-2
bounds-line-n-2 c = simp length-set (omega (arith, c.line-1.given.1))

pub returns : goal.returns
returns c = let a = c.args in line_put a.o a.n (omega arith) c.put_basis.new.out a.line.now (omega arith) (c.put_basis.ensures ∙ rw (c.put_powers.ensures, c.put_powers-2.ensures, length-take-le a.n a.line.now (omega arith)))
