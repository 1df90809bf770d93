-- `sip_sums::add_scaled` meets its contract: the places below k are done, the others as they were. Assumes nothing.
use borrow.Author.Rules.{rules}
use Rattle.elimination_rows.proofs.Turns.{front_none, front_next, front_more, front_all}
use Rattle.floats.specs.Rounded.{◌⊕◌, ◌⊗◌}
use lib.Ieee.{Float, nan}
use lib.ListN.{length, length-set, get_or}
use native.Mathlib.Omega.{arith}
use Prim.Native.Nat.{◌<◌, ℕ}
use Rattle.sip_sums.proofs.add_scaled.Goals as goal

pub loop-k-init : goal.loop-k-init
loop-k-init c = (front_none (λ i. get_or c.args.row.now i nan ⊕ c.args.factor ⊗ get_or c.args.line.now i nan) c.args.row.now, search rules, search rules, search rules, search rules)

pub loop-k-preserved : goal.loop-k-preserved
loop-k-preserved c = let a = c.args in
    let t : c.loop-k.k < length c.loop-k.row = omega arith in
    let old : ℕ → Float = λ i. get_or a.row.now i nan in
    let new : ℕ → Float = λ i. get_or a.row.now i nan ⊕ a.factor ⊗ get_or a.line.now i nan in (
      front_more c.loop-k.k new old c.loop-k.row _ c.loop-k.invariant.0 t (rw (front_next c.loop-k.k new old c.loop-k.row c.loop-k.invariant.0 t)),
      simp length-set c.loop-k.invariant.1,
      search rules,
      omega arith,
      search rules,
    )

pub returns : goal.returns
returns c = let a = c.args in
    λ i h. front_all c.loop-k.k (λ i. get_or a.row.now i nan ⊕ a.factor ⊗ get_or a.line.now i nan) (λ i. get_or a.row.now i nan) c.loop-k.row c.loop-k.invariant.0 i (omega arith) (omega arith)
