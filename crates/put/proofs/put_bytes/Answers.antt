-- `put::put_bytes` meets its contract: a byte more at each turn, and at the end all of them.
use mathlib.Core.Path.{◌≡◌, ◌∙◌, subst}
use Prim.Native.Nat.{ℕ, ◌+◌, ◌<◌}
use native.Mathlib.Omega.{arith}
use native.Mathlib.Nat.{add-zero}
use lib.ListN.{length}
use Rattle.put.specs.Put.{Put}
use Rattle.put.proofs.Writing.{copy_step, copy_end}
use Rattle.put.proofs.put_bytes.Goals as goal

pub loop-i-init : goal.loop-i-init
loop-i-init c = rw (add-zero c.args.at)

pub loop-i-preserved : goal.loop-i-preserved
loop-i-preserved c =
    let l = c.loop-i in
    let h : l.i < length c.args.t.now = omega arith in
    copy_step l.buf c.args.t.now c.args.at l.i h ∙ l.invariant

pub returns : goal.returns
returns c =
    let l = c.loop-i in
    let e : l.i ≡ length c.args.t.now = omega arith in
    subst (λ (k : ℕ). Put c.args.buf.now c.args.at c.args.t.now (c.args.at + k) l.buf) e (copy_end _ _ _ _ _ (omega arith) (omega arith) l.invariant)
