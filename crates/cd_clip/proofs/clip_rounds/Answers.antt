-- `cd_clip::clip_rounds` meets its contract: with the rounds that are to come, each round comes to the whole clip; its two loops go over the rows as `Loops` says. Assumes nothing.
use mathlib.Core.List.{List}
use mathlib.Core.Path.{◌≡◌, refl, sym, ap, ◌∙◌}
use Prim.Native.Nat.{ℕ, suc, ◌+◌, ◌-◌}
use native.Mathlib.Omega.{arith}
use borrow.Author.Rules.{rules}
use borrow.Author.Tests.{not-true, not-false}
use lib.Dec.{eqb}
use lib.ListN.{length, get_or}
use lib.Ieee.{Float}
use Rattle.rows.specs.Rows.{Rows, rows, count}
use Rattle.cd_plate.specs.declared.Cd.{Cd}
use Rattle.cd_plate.proofs.Filling.{filled_length}
use Rattle.cd_mask.proofs.Marking.{byte_small}
use Rattle.cd_round.specs.Round.{root_at}
use Rattle.cd_clip.specs.Clip.{clip_from}
use Rattle.cd_clip.proofs.Loops.{sum_none, sum_next, all_on, sift_none, sift_next, left_few}
use Rattle.cd_clip.proofs.Rounds.{parts_of, few_on, none_rejected, few_left, goes_on, stopped}
use Rattle.cd_clip.proofs.Passed.{masked}
use Rattle.cd_clip.proofs.clip_rounds.Goals.{In-rounds}
use mathlib.Core.Bool.{not}
use Rattle.cd_clip.proofs.clip_rounds.Goals as goal

-- a round: what it begins with
module _ (c : In-rounds) where
  abbrev its-rows : Rows
  its-rows = rows c.args.px.now c.args.py.now c.args.xi.now c.args.eta.now

  abbrev its-weights : List Float
  its-weights = c.args.weights.now

  abbrev its-mask : List ℕ
  its-mask = c.rounds.mask

  abbrev its-plate : Cd
  its-plate = c.rounds.cd

  -- how many rounds are to come
  abbrev to-come : ℕ
  to-come = 10 - (c.rounds.counter + 1)

  mask_long : length its-mask ≡ count its-rows
  mask_long = c.rounds.invariant.2

  errors-long : length c.rounds.errors ≡ count its-rows
  errors-long = c.rounds.invariant.3

  weights_long : length its-weights ≡ count its-rows
  weights_long = c.requires.fact_1.weights_long

  roots-long : length c.args.roots.now ≡ count its-rows
  roots-long = ap length c.requires.fact_2 ∙ filled_length (root_at its-weights) (length its-weights) ∙ weights_long

  -- with those to come the round comes to the whole
  turn : clip_from (suc to-come) its-rows its-weights its-mask its-plate ≡ clip_from 10 its-rows its-weights c.args.mask.now c.args.start
  turn =
      let e : 10 - c.rounds.counter ≡ suc to-come = omega (arith, c.rounds-test.true) in
      rw e at c.rounds.invariant.0

pub rounds-init : goal.rounds-init
rounds-init c = (refl, search rules, c.requires.fact_1.mask_long, c.requires.fact_3)

pub loop-i-init : goal.loop-i-init
loop-i-init c = (sum_none _ _ _ _ _, search rules)

pub bounds-mask-i : goal.bounds-mask-i
bounds-mask-i c = let r = (goal.at.bounds-mask-i c).In-rounds in rw (mask_long r) c.loop-i-test.true

pub row_at-requires : goal.row_at-requires
row_at-requires c = let k = c.requires.fact_1 in let t = c.loop-i-test.true in (t, (omega (arith, t, k.py_long), (omega (arith, t, k.xi_long), omega (arith, t, k.eta_long))))

pub offset_bounds-errors-i : goal.offset_bounds-errors-i
offset_bounds-errors-i c = omega (arith, c.loop-i-test.true, c.requires.fact_1.few)

pub bounds-errors-i : goal.bounds-errors-i
bounds-errors-i c = let r = (goal.at.bounds-errors-i c).In-rounds in omega (arith, c.loop-i-test.true, c.loop-i.invariant.0.front.long, errors-long r)

pub offset_bounds-weights-i : goal.offset_bounds-weights-i
offset_bounds-weights-i c = omega (arith, c.loop-i-test.true, c.requires.fact_1.few)

pub bounds-weights-i : goal.bounds-weights-i
bounds-weights-i c = let r = (goal.at.bounds-weights-i c).In-rounds in omega (arith, c.loop-i-test.true, weights_long r)

pub overflow_add-on : goal.overflow_add-on
overflow_add-on c = let r = (goal.at.overflow_add-on c).In-rounds in omega (arith, byte_small (eqb (get_or (its-mask r) c.loop-i.i 0) 1) c.is_on-on.ensures, c.loop-i.invariant.0.on_few, c.loop-i-test.true, c.requires.fact_1.few)

pub overflow_step-i : goal.overflow_step-i
overflow_step-i c = omega (arith, c.loop-i-test.true, c.requires.fact_1.few)

pub loop-i-smaller : goal.loop-i-smaller
loop-i-smaller c = omega (arith, c.loop-i-test.true)

pub loop-i-preserved : goal.loop-i-preserved
loop-i-preserved c = let r = (goal.at.loop-i-preserved c).In-rounds in (
  sum_next _ _ _ _ _ _ _ _ _ _ _ _ c.loop-i.invariant.0 c.loop-i-test.true (mask_long r) (errors-long r) (rw (c.error_if-e.ensures, c.row_at.ensures)) c.with_square_if-sum.ensures c.is_on-on.ensures,
  omega (arith, c.loop-i-test.true),
)

pub of-clip-requires : goal.of-clip-requires
of-clip-requires c = omega (arith, c.loop-i.invariant.0.on_few, c.loop-i.invariant.1, c.requires.fact_1.few)

pub loop-i-2-init : goal.loop-i-2-init
loop-i-2-init c = (sift_none _ _ _ _, search rules)

pub bounds-mask-i-in-loop-i-2 : goal.bounds-mask-i-in-loop-i-2
bounds-mask-i-in-loop-i-2 c = let r = (goal.at.bounds-mask-i-in-loop-i-2 c).In-rounds in omega (arith, c.loop-i-2-test.true, c.loop-i-2.invariant.0.front.long, mask_long r)

pub offset_bounds-errors-i-in-loop-i-2 : goal.offset_bounds-errors-i-in-loop-i-2
offset_bounds-errors-i-in-loop-i-2 c = omega (arith, c.loop-i-2-test.true, c.requires.fact_1.few)

pub bounds-errors-i-in-loop-i-2 : goal.bounds-errors-i-in-loop-i-2
bounds-errors-i-in-loop-i-2 c = let r = (goal.at.bounds-errors-i-in-loop-i-2 c).In-rounds in omega (arith, c.loop-i-2-test.true, c.loop-i.invariant.0.front.long, errors-long r)

pub offset_bounds-roots-i : goal.offset_bounds-roots-i
offset_bounds-roots-i c = omega (arith, c.loop-i-2-test.true, c.requires.fact_1.few)

pub bounds-roots-i : goal.bounds-roots-i
bounds-roots-i c = let r = (goal.at.bounds-roots-i c).In-rounds in omega (arith, c.loop-i-2-test.true, roots-long r)

pub bounds-mask-i-in-loop-i-2-2 : goal.bounds-mask-i-in-loop-i-2-2
bounds-mask-i-in-loop-i-2-2 c = let r = (goal.at.bounds-mask-i-in-loop-i-2-2 c).In-rounds in omega (arith, c.loop-i-2-test.true, c.loop-i-2.invariant.0.front.long, mask_long r)

pub overflow_add-left : goal.overflow_add-left
overflow_add-left c = omega (arith, byte_small (eqb c.byte_left-kept.result 1) c.is_on-left.ensures, left_few _ _ _ _ c.loop-i-2.invariant.0, c.loop-i-2-test.true, c.requires.fact_1.few)

pub overflow_step-i-in-loop-i-2 : goal.overflow_step-i-in-loop-i-2
overflow_step-i-in-loop-i-2 c = omega (arith, c.loop-i-2-test.true, c.requires.fact_1.few)

pub loop-i-2-smaller : goal.loop-i-2-smaller
loop-i-2-smaller c = omega (arith, c.loop-i-2-test.true)

pub loop-i-2-preserved : goal.loop-i-2-preserved
loop-i-2-preserved c = let r = (goal.at.loop-i-2-preserved c).In-rounds in (
  sift_next _ _ _ _ _ _ _ _ _ _ _ c.loop-i-2.invariant.0 (omega (arith, c.loop-i-2-test.true, mask_long r)) c.rejects-out.ensures c.byte_left-kept.ensures c.is_on-left.ensures,
  omega (arith, c.loop-i-2-test.true),
)

pub refit-requires : goal.refit-requires
refit-requires c = let r = (goal.at.refit-requires c).In-rounds in masked c.requires.fact_1 _ (c.loop-i-2.invariant.0.front.long ∙ mask_long r)

pub shape_of-mask-in_default : goal.shape_of-mask-in_default
shape_of-mask-in_default c = let r = (goal.at.shape_of-mask-in_default c).In-rounds in c.loop-i-2.invariant.0.front.long ∙ mask_long r ∙ sym c.requires.fact_1.mask_long

pub shape_of-errors-in_default : goal.shape_of-errors-in_default
shape_of-errors-in_default c = let r = (goal.at.shape_of-errors-in_default c).In-rounds in c.loop-i.invariant.0.front.long ∙ errors-long r ∙ sym c.requires.fact_3

pub returns-in_default : goal.returns-in_default
returns-in_default c = let r = (goal.at.returns-in_default c).In-rounds in sym (stopped _ _ _ _ (to-come r) (parts_of (mask_long r) (errors-long r) c.inverse-v.ensures c.requires.fact_2 c.of-clip.ensures c.loop-i.invariant.0 (omega (arith, c.loop-i-test.false, c.loop-i.invariant.1)) c.loop-i-2.invariant.0 (omega (arith, c.loop-i-2-test.false, c.loop-i-2.invariant.1))) c.if-on-lt-LEAST_ROWS.false (not-false c.loop-i-2.any (ap not c.if-not-any.false)) c.if-left-lt-LEAST_ROWS.false _ (sym c.refit.ensures ∙ c.in_default.is)) ∙ turn r

pub overflow_step : goal.overflow_step
overflow_step c = omega (arith, c.rounds-test.true)

pub rounds-smaller : goal.rounds-smaller
rounds-smaller c = omega (arith, c.rounds-test.true)

pub rounds-preserved : goal.rounds-preserved
rounds-preserved c = let r = (goal.at.rounds-preserved c).In-rounds in (
  sym (goes_on _ _ _ _ (to-come r) (parts_of (mask_long r) (errors-long r) c.inverse-v.ensures c.requires.fact_2 c.of-clip.ensures c.loop-i.invariant.0 (omega (arith, c.loop-i-test.false, c.loop-i.invariant.1)) c.loop-i-2.invariant.0 (omega (arith, c.loop-i-2-test.false, c.loop-i-2.invariant.1))) c.if-on-lt-LEAST_ROWS.false (not-false c.loop-i-2.any (ap not c.if-not-any.false)) c.if-left-lt-LEAST_ROWS.false _ (sym c.refit.ensures ∙ c.in-Ok.is)) ∙ turn r,
  omega (arith, c.rounds-test.true),
  c.loop-i-2.invariant.0.front.long ∙ mask_long r,
  c.loop-i.invariant.0.front.long ∙ errors-long r,
)

pub shape_of-mask-after-rounds : goal.shape_of-mask-after-rounds
shape_of-mask-after-rounds c = c.rounds.invariant.2 ∙ sym c.requires.fact_1.mask_long

pub shape_of-errors-after-rounds : goal.shape_of-errors-after-rounds
shape_of-errors-after-rounds c = c.rounds.invariant.3 ∙ sym c.requires.fact_3

pub returns-after-rounds : goal.returns-after-rounds
unfolding clip_from
returns-after-rounds c = let e : 10 - c.rounds.counter ≡ 0 = omega (arith, c.rounds-test.false) in rw e at c.rounds.invariant.0

pub shape_of-mask-then-on-lt-LEAST_ROWS : goal.shape_of-mask-then-on-lt-LEAST_ROWS
shape_of-mask-then-on-lt-LEAST_ROWS c = let r = (goal.at.shape_of-mask-then-on-lt-LEAST_ROWS c).In-rounds in mask_long r ∙ sym c.requires.fact_1.mask_long

pub shape_of-errors-then-on-lt-LEAST_ROWS : goal.shape_of-errors-then-on-lt-LEAST_ROWS
shape_of-errors-then-on-lt-LEAST_ROWS c = let r = (goal.at.shape_of-errors-then-on-lt-LEAST_ROWS c).In-rounds in c.loop-i.invariant.0.front.long ∙ errors-long r ∙ sym c.requires.fact_3

pub returns-then-on-lt-LEAST_ROWS : goal.returns-then-on-lt-LEAST_ROWS
returns-then-on-lt-LEAST_ROWS c = let r = (goal.at.returns-then-on-lt-LEAST_ROWS c).In-rounds in sym (few_on _ _ _ _ (to-come r) (rw (all_on _ _ _ _ _ c.loop-i.invariant.0 (omega (arith, c.loop-i-test.false, c.loop-i.invariant.1)) (mask_long r) (errors-long r)) at c.if-on-lt-LEAST_ROWS.true)) ∙ turn r

pub shape_of-mask-then-not-any : goal.shape_of-mask-then-not-any
shape_of-mask-then-not-any c = let r = (goal.at.shape_of-mask-then-not-any c).In-rounds in c.loop-i-2.invariant.0.front.long ∙ mask_long r ∙ sym c.requires.fact_1.mask_long

pub shape_of-errors-then-not-any : goal.shape_of-errors-then-not-any
shape_of-errors-then-not-any c = let r = (goal.at.shape_of-errors-then-not-any c).In-rounds in c.loop-i.invariant.0.front.long ∙ errors-long r ∙ sym c.requires.fact_3

pub returns-then-not-any : goal.returns-then-not-any
returns-then-not-any c = let r = (goal.at.returns-then-not-any c).In-rounds in sym (none_rejected _ _ _ _ (to-come r) (parts_of (mask_long r) (errors-long r) c.inverse-v.ensures c.requires.fact_2 c.of-clip.ensures c.loop-i.invariant.0 (omega (arith, c.loop-i-test.false, c.loop-i.invariant.1)) c.loop-i-2.invariant.0 (omega (arith, c.loop-i-2-test.false, c.loop-i-2.invariant.1))) c.if-on-lt-LEAST_ROWS.false (not-true c.loop-i-2.any (ap not c.if-not-any.true))) ∙ turn r

pub shape_of-mask-then-left-lt-LEAST_ROWS : goal.shape_of-mask-then-left-lt-LEAST_ROWS
shape_of-mask-then-left-lt-LEAST_ROWS c = let r = (goal.at.shape_of-mask-then-left-lt-LEAST_ROWS c).In-rounds in c.loop-i-2.invariant.0.front.long ∙ mask_long r ∙ sym c.requires.fact_1.mask_long

pub shape_of-errors-then-left-lt-LEAST_ROWS : goal.shape_of-errors-then-left-lt-LEAST_ROWS
shape_of-errors-then-left-lt-LEAST_ROWS c = let r = (goal.at.shape_of-errors-then-left-lt-LEAST_ROWS c).In-rounds in c.loop-i.invariant.0.front.long ∙ errors-long r ∙ sym c.requires.fact_3

pub returns-then-left-lt-LEAST_ROWS : goal.returns-then-left-lt-LEAST_ROWS
returns-then-left-lt-LEAST_ROWS c = let r = (goal.at.returns-then-left-lt-LEAST_ROWS c).In-rounds in sym (few_left _ _ _ _ (to-come r) (parts_of (mask_long r) (errors-long r) c.inverse-v.ensures c.requires.fact_2 c.of-clip.ensures c.loop-i.invariant.0 (omega (arith, c.loop-i-test.false, c.loop-i.invariant.1)) c.loop-i-2.invariant.0 (omega (arith, c.loop-i-2-test.false, c.loop-i-2.invariant.1))) c.if-on-lt-LEAST_ROWS.false (not-false c.loop-i-2.any (ap not c.if-not-any.false)) c.if-left-lt-LEAST_ROWS.true) ∙ turn r
