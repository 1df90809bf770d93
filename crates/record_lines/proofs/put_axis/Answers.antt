-- `record_lines::put_axis` meets its contract: the numbers of the axis are the front of its list. Assumes nothing.
use native.Mathlib.Omega.{arith}
use mathlib.Core.Path.{◌≡◌, sym}
use lib.Seq.{length-take-le}
use lib.ListN.{length}
use Rattle.record_lines.specs.Parts.{axis_lines}
use borrow.Author.Rules.{rules}
use Rattle.record_lines.proofs.put_axis.Goals as goal

pub slice_bounds-cs-end : goal.slice_bounds-cs-end
slice_bounds-cs-end c = let e : length c.args.x.numbers ≡ 18 = search rules in omega (arith, e, c.requires.0)

pub slice_bounds-put_terms-end : goal.slice_bounds-put_terms-end
slice_bounds-put_terms-end c = let e : length c.args.x.numbers ≡ 18 = search rules in sym (length-take-le c.args.x.terms c.args.x.numbers (omega (arith, e, c.requires.0)))

pub put_terms-requires : goal.put_terms-requires
unfolding axis_lines
put_terms-requires c = let e : length c.args.x.numbers ≡ 18 = search rules in (omega (arith, c.requires.0, length-take-le c.args.x.terms c.args.x.numbers (omega (arith, e, c.requires.0))), c.requires.1)

pub returns : goal.returns
unfolding axis_lines
returns c = c.put_terms.ensures
