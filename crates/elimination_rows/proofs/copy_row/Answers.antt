-- `elimination_rows::copy_row` meets its contract: the places below k are copied. Assumes nothing.
use mathlib.Core.Path.{refl}
use native.Mathlib.Omega.{arith}
use lib.Seq.{ext_get_or}
use lib.Ieee.{nan}
use lib.ListN.{get_or, length-set}
use borrow.Author.Rules.{rules}
use Rattle.elimination_rows.proofs.Turns.{front_none, front_more, front_all}
use Rattle.elimination_rows.proofs.copy_row.Goals as goal

pub loop-k-init : goal.loop-k-init
loop-k-init c = (front_none (λ i. get_or c.args.from.now i nan) c.args.to.now, search rules, search rules, search rules)

pub loop-k-preserved : goal.loop-k-preserved
loop-k-preserved c =
    let a = c.args in (
      front_more c.loop-k.k (λ i. get_or a.from.now i nan) (λ i. get_or a.to.now i nan) c.loop-k.to _ c.loop-k.invariant.0 (omega arith) refl,
      simp length-set c.loop-k.invariant.1,
      omega arith,
      search rules,
    )

pub returns : goal.returns
returns c =
    let a = c.args in
    ext_get_or nan c.loop-k.to a.from.now c.loop-k.invariant.1 (λ i h. front_all c.loop-k.k (λ i. get_or a.from.now i nan) (λ i. get_or a.to.now i nan) c.loop-k.to c.loop-k.invariant.0 i h (omega arith))
