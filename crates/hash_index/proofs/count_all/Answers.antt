-- `hash_index::count_all` meets its contract: what is counted and what is left come to the whole, and each count is stored. Assumes nothing.
use mathlib.Core.Path.{◌≡◌, ap, ◌∙◌}
use Prim.Native.Nat.{◌+◌, ◌-◌, ◌≤◌}
use native.Mathlib.Nat.{sub-zero}
use native.Mathlib.Omega.{arith}
use lib.ListN.{length, length-set, length-append}
use Rattle.hash_lanes.specs.Lanes.{hash_at, base_of}
use Rattle.hash_near.proofs.Near.{near_most}
use Rattle.hash_near.proofs.Over.{over_more, over_end}
use Rattle.hash_near.specs.Over.{over}
use Rattle.hash_index.specs.Steps.{near_to}
use Rattle.hash_index.proofs.Call.{counted_none, counted_more}
use Rattle.hash_index.proofs.count_all.Goals.{After-count_near-near}
use Rattle.hash_index.proofs.count_all.Goals as goal

pub loop-i-init : goal.loop-i-init
loop-i-init c = let a = c.args in
    (omega arith, omega arith, omega arith, rw sub-zero (omega arith), counted_none (near_to a.hashes.now a.lanes.now a.m) a.counts.now)

pub base_at-requires : goal.base_at-requires
base_at-requires c = omega (arith, c.requires)

pub count_near-near-requires : goal.count_near-near-requires
count_near-near-requires c = record { fact_1 = omega (arith, c.requires); fact_2 = omega arith; fact_3 = omega (arith, c.requires) }

-- the near ones of image quad i are counted
counted : (c : After-count_near-near) → c.count_near-near.result ≡ length (near_to c.args.hashes.now c.args.lanes.now c.args.m c.loop-i.i)
counted c = rw (c.base_at.ensures, sub-zero c.args.m) at c.count_near-near.ensures

-- and are 12,000 at most
most : (c : After-count_near-near) → c.count_near-near.result ≤ 12000
most c = omega (arith, counted c, near_most c.args.lanes.now (base_of (hash_at c.args.hashes.now c.loop-i.i)) 0 c.args.m, c.requires)

pub offset_bounds-counts-i : goal.offset_bounds-counts-i
offset_bounds-counts-i c = omega (arith, c.requires)

pub bounds-counts-i : goal.bounds-counts-i
bounds-counts-i c = omega (arith, c.requires)

pub overflow_add-total : goal.overflow_add-total
overflow_add-total c = omega (arith, most (goal.at.overflow_add-total c).After-count_near-near, c.loop-i.invariant, c.requires)

pub overflow_step-i : goal.overflow_step-i
overflow_step-i c = omega arith

pub loop-i-smaller : goal.loop-i-smaller
loop-i-smaller c = omega arith

pub loop-i-preserved : goal.loop-i-preserved
loop-i-preserved c =
    let a = c.args in
    let l = c.loop-i in
    let near = near_to a.hashes.now a.lanes.now a.m in
    let e = ap length (over_more near l.i a.n c.loop-i-test.true) ∙ length-append (near l.i) (over near (l.i + 1) (a.n - (l.i + 1))) in (
      omega arith,
      length-set l.counts l.i c.count_near-near.result ∙ l.invariant.1,
      omega (arith, most (goal.at.loop-i-preserved c).After-count_near-near, l.invariant.2),
      omega (arith, counted (goal.at.loop-i-preserved c).After-count_near-near, l.invariant.3),
      counted_more (near_to a.hashes.now a.lanes.now a.m) l.i l.counts c.count_near-near.result (omega (arith, l.invariant.1, c.requires)) (counted (goal.at.loop-i-preserved c).After-count_near-near) l.invariant.4,
    )

pub shape_of-counts : goal.shape_of-counts
shape_of-counts c = omega (arith, c.loop-i.invariant.1, c.requires)

pub returns : goal.returns
returns c =
    let a = c.args in
    let l = c.loop-i in
    let near = near_to a.hashes.now a.lanes.now a.m in
    let d : l.i ≡ a.n = omega (arith, l.invariant.0, c.loop-i-test.false) in
    (omega (arith, ap length (over_end near l.i a.n c.loop-i-test.false), l.invariant.3), rw d at l.invariant.4)
