-- `root::root_bits` meets its contract. Assumes nothing.
use mathlib.Core.Path.{sym, subst}
use Prim.Native.Nat.{ℕ}
use native.Mathlib.Omega.{arith}
use Rattle.root.proofs.Halves.{Evened, even, uneven, q_high, rooted}
use Rattle.root.proofs.root_bits.Goals.{Joined-e-eq0, then-e-eq0, else-e-eq0}
use Rattle.root.proofs.root_bits.Goals as goal

-- where the two arms meet
evened : (c : Joined-e-eq0) → Evened c.scaled-s.result.m c.scaled-s.result.e c.if-e-eq0.n
evened c =
    let s = c.scaled-s.ensures in
    let m = c.scaled-s.result.m in
    let e = c.scaled-s.result.e in
    elim c.if-e-eq0.branch [
      | then-e-eq0 w ↦ subst (λ (k : ℕ). Evened m e k) (sym w.n-is) (even s w.if-e-eq0.true)
      | else-e-eq0 w ↦ subst (λ (k : ℕ). Evened m e k) (sym w.n-is) (uneven s w.if-e-eq0.false)
    ]

pub overflow_add-m : goal.overflow_add-m
overflow_add-m c = omega (arith, c.scaled-s.ensures.high)

pub root_whole-q-requires : goal.root_whole-q-requires
root_whole-q-requires c = record { fact_1 = (omega (arith, (evened c).low), omega (arith, (evened c).high)); fact_2 = omega (arith, c.scaled-s.ensures.high) }

pub overflow_add-result-2 : goal.overflow_add-result-2
overflow_add-result-2 c = omega (arith, q_high (evened c.before) c.root_whole-q.result c.root_whole-q.ensures.0 c.root_whole-q.ensures.1)

pub returns : goal.returns
returns c = (_, _, rooted c.scaled-s.ensures (evened c.before) c.root_whole-q.result c.root_whole-q.ensures.0 c.root_whole-q.ensures.1)
