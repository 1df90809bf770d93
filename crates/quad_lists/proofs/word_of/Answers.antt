-- `quad_lists::word_of` meets its contract. Assumes nothing.
use Prim.Native.Nat.{◌+◌}
use mathlib.Core.Path.{◌∙◌}
use native.Mathlib.Omega.{arith}
use Rattle.quad_lists.specs.Lists.{bit}
use Rattle.quad_lists.proofs.Bits.{bit_zero, bit_or_lem}
use Rattle.quad_lists.proofs.Rows.{memb_on}
use Rattle.quad_lists.proofs.word_of.Goals as goal

pub loop-q-init : goal.loop-q-init
loop-q-init c = λ v h. rw (bit_zero v)

pub loop-q-preserved : goal.loop-q-preserved
loop-q-preserved c =
    let a = c.args in
    let l = c.loop-q in
    λ v h. rw (bit_or_lem l.word c.bit_of-word.result v, c.bit_of-word.ensures v h) (memb_on a.list.now l.q-index (a.from + v) (bit l.word v) (omega arith) ∙ l.invariant v h)
