-- `record_lines::Axis::of` meets its contract: after i numbers the first i hold those of the list. Assumes nothing.
use borrow.Author.Rules.{rules}
use native.Mathlib.Omega.{arith}
use mathlib.Core.Path.{◌≡◌, refl, ap, ◌∙◌}
use Prim.Native.Nat.{ℕ}
use lib.Seq.{take_all}
use lib.ListN.{length, take, length-set}
use Rattle.record_format.specs.Formats.{held_by}
use Rattle.record_lines.proofs.Laws.{held_more}
use Rattle.record_lines.proofs.Axis.of.Goals as goal

pub loop-i-init : goal.loop-i-init
loop-i-init c = (refl, search rules)

pub loop-i-preserved : goal.loop-i-preserved
loop-i-preserved c =
    let l = c.loop-i in
    let f = c.of-format.result in
    let cs = c.args.cs.now in
    (held_more (held_by f) l.numbers cs l.i _ _ (omega arith) (omega arith) c.held.ensures l.invariant.0, length-set l.numbers l.i _ ∙ l.invariant.1)

pub returns : goal.returns
returns c =
    let l = c.loop-i in
    let o = c.of-format in
    let cs = c.args.cs.now in
    let e : length cs ≡ l.i = omega arith in
    (refl, omega arith, ap (λ (k : ℕ). take k l.numbers) e ∙ l.invariant.0 ∙ rw (o.ensures, take_all l.i cs c.loop-i-test.false) refl)
