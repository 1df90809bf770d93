-- `record_check_cases::show_parts` is safe: the part that is shown lies in the text. Assumes nothing.
use mathlib.Core.Path.{sym}
use native.Mathlib.Omega.{arith}
use lib.Seq.{length-take-le}
use borrow.Author.Rules.{rules}
use Rattle.record_check_cases.proofs.show_parts.Goals as goal

pub slice_bounds-show-end : goal.slice_bounds-show-end
slice_bounds-show-end c = sym (length-take-le _ _ (omega (arith, c.put_parts-n.ensures, c.put_parts-n.auto.text)))
