-- `record_check_cases::show_long` is safe: the part that is shown lies in the text. Assumes nothing.
use mathlib.Core.Path.{sym}
use native.Mathlib.Omega.{arith}
use lib.Seq.{length-take-le}
use borrow.Author.Rules.{rules}
use Rattle.record_check_cases.proofs.show_long.Goals as goal

pub slice_bounds-show-end-2 : goal.slice_bounds-show-end-2
slice_bounds-show-end-2 c = sym (length-take-le 2048 c.put_parts.new.text (omega (arith, c.put_parts.auto.text)))
