-- How a run ends, by the tests on the way. Assumes nothing.
use Rattle.answer.specs.declared.Refusal.{Refusal}
use Rattle.std.specs.Prelude.{Ok, Err, Result}
use mathlib.Core.Path.{◌≡◌, sym, ap, ◌∙◌}
use mathlib.Core.Bool.{Bool, true, false, cond, not, ◌&&◌, and-eq-true_iff}
use mathlib.Core.List.{List}
use mathlib.Core.Option.{some, none}
use Prim.Native.Nat.{ℕ, ◌≤◌, ◌<◌}
use native.Mathlib.Omega.{arith}
use lib.Dec.{leb, ltb, eqb}
use lib.ListN.{length}
use lib.Ieee.{Float}
use borrow.Author.Tests.{lt-ltb, le-ltb, ltb-false, leb-true, le-leb, eqb-true, not-false}
use Rattle.answer.proofs.Passed.{passed}
use Rattle.domain.specs.Domain.{is_limit}
use Rattle.answer.specs.declared.Refusal.TheVariants as refusal
use Rattle.rows.specs.Rows.{Rows, count, few_rows, even_rows, position_rows}
use Rattle.draw.specs.Best as best
use Rattle.cd_plate.specs.declared.Cd.{Cd}
use Rattle.cd_near.specs.Near.{near_count}
use Rattle.cd_trial.specs.declared.Held.{Held}
use Rattle.cd_trial.specs.Trial.{model_of, fit_triple, fit_again, best_of}
use Rattle.cd_trial.specs.Held.{IsHeld}
use Rattle.cd_run.specs.declared.CdRun.{CdRun}
use Rattle.cd_run.specs.Run.{most_trials, tests_of, Outcome, refused, untested, fitted, held_end, pool_end, end_answer, end_mask}

-- ---- what a run is like whose tests are done
pub record Passed (r : Rows) (votes : ℕ) (limit : Float) (trials places : ℕ) : Type 0 where
  pub few_rows_lem : count r ≤ 100
  pub few_votes : votes ≤ 100
  pub py_long : length r.py ≡ count r
  pub xi_long : length r.xi ≡ count r
  pub eta_long : length r.eta ≡ count r
  pub room : count r ≤ places
  pub limit_good : is_limit limit ≡ true

module _ (r : Rows) (votes : ℕ) (limit : Float) (trials places : ℕ) where
  -- each test by itself
  record Tests : Type 0 where
    few : few_rows r ≡ true
    votes_few : leb votes 100 ≡ true
    even : even_rows r ≡ true
    good : (position_rows r && is_limit limit) ≡ true
    room : ltb places (count r) ≡ false

  tests : tests_of r votes limit trials places ≡ Ok tt → Tests
  unfolding tests_of
  tests e =
      let f = passed (not (few_rows r && (leb votes 100 && leb trials most_trials))) _ _ e in
      let g = passed (not (even_rows r)) _ _ f.1 in
      let h = passed (not (position_rows r && is_limit limit)) _ _ g.1 in
      let counts = (and-eq-true_iff (few_rows r) _).0 (not-false (few_rows r && (leb votes 100 && leb trials most_trials)) f.0) in
      record {
        few = counts.0;
        votes_few = ((and-eq-true_iff (leb votes 100) _).0 counts.1).0;
        even = not-false (even_rows r) g.0;
        good = not-false (position_rows r && is_limit limit) h.0;
        room = (passed (ltb places (count r)) _ _ h.1).0;
      }

  pub tests_passed : tests_of r votes limit trials places ≡ Ok tt → Passed r votes limit trials places
  tests_passed e =
      let t = tests e in
      let pixels = ((and-eq-true_iff (leb (length r.px) 100 && leb (length r.py) 100) _).0 t.few).0 in
      let even = (and-eq-true_iff (eqb (length r.py) (count r)) _).0 t.even in
      let plane = (and-eq-true_iff (eqb (length r.xi) (count r)) _).0 even.1 in
      record {
        few_rows_lem = leb-true _ _ ((and-eq-true_iff (leb (length r.px) 100) _).0 pixels).0;
        few_votes = leb-true _ _ t.votes_few;
        py_long = eqb-true _ _ even.0;
        xi_long = eqb-true _ _ plane.0;
        eta_long = eqb-true _ _ plane.1;
        room = ltb-false _ _ t.room;
        limit_good = ((and-eq-true_iff (position_rows r) _).0 t.good).1;
      }

  -- any other number of trials that is in its limit passes too
  pub tests_again : tests_of r votes limit trials places ≡ Ok tt → (other : ℕ) → other ≤ most_trials → tests_of r votes limit other places ≡ Ok tt
  unfolding tests_of
  tests_again e other h =
      let t = tests e in
      rw (t.few, t.votes_few, le-leb other most_trials h, t.even, t.good, t.room)

  -- tests that refuse nothing
  abbrev none_refused : Result Unit Refusal
  none_refused = Ok tt

  -- no test gives number 9
  pub tests_not_nine : tests_of r votes limit trials places ≡ Err refusal.Few → ⊥
  unfolding tests_of
  tests_not_nine =
      go (not (few_rows r && (leb votes 100 && leb trials most_trials))) (not (even_rows r)) (not (position_rows r && is_limit limit)) (ltb places (count r))
    where
      go : (a b c d : Bool)
          → cond a (Err refusal.Count) (cond b (Err refusal.Lengths) (cond c (Err refusal.Value) (cond d (Err refusal.Room) none_refused))) ≡ Err refusal.Few
          → ⊥
      go true b c d e = let z : ◌≡◌ {A = ℕ} 0 1 = cc in omega arith
      go false true c d e = let z : ◌≡◌ {A = ℕ} 0 1 = cc in omega arith
      go false false true d e = let z : ◌≡◌ {A = ℕ} 0 1 = cc in omega arith
      go false false false true e = let z : ◌≡◌ {A = ℕ} 0 1 = cc in omega arith
      go false false false false e = let z : ◌≡◌ {A = ℕ} 0 1 = cc in omega arith

-- ---- what is returned and left, once it is known how the run ends
pub ended : (r : Rows) (limit : Float) (old : List ℕ) (v : Result CdRun Refusal) (mask : List ℕ) (o e : Outcome) → o ≡ e
    → v ≡ end_answer r limit e → mask ≡ end_mask r limit e old → (v ≡ end_answer r limit o) × (mask ≡ end_mask r limit o old)
ended r limit old v mask o e p a m = rw p (a, m)

-- ---- how a run over a pool ends
module _ (r : Rows) (limit : Float) (pool : List ℕ) (trials : ℕ) where
  pub small_pool : length pool < 3 → pool_end r limit pool trials ≡ untested
  unfolding pool_end
  small_pool h = rw (lt-ltb _ _ h)

  -- by what the search holds
  module _ (h : Held) (d : IsHeld r limit pool (best_of r limit pool trials) h) (p : 3 ≤ length pool) where
    pub none_held : model_of h.fit ≡ none → pool_end r limit pool trials ≡ refused refusal.Few
    unfolding pool_end held_end
    none_held e = rw (le-ltb _ _ p, ← d.model, e)

    module _ (m : Cd) (e : model_of h.fit ≡ some m) where
      pub held_on : h.on ≡ near_count r limit m
      held_on = d.rows_on ∙ ap (best.count (fit_triple r pool) (fit_again r limit) (near_count r limit)) (sym d.model ∙ e)

      pub few_held : h.on < 3 → pool_end r limit pool trials ≡ refused refusal.Few
      unfolding pool_end held_end
      few_held l =
          let t : near_count r limit m < 3 = omega (arith, held_on) in
          rw (le-ltb _ _ p, ← d.model, e, lt-ltb _ _ t)

      pub three_held : 3 ≤ h.on → pool_end r limit pool trials ≡ fitted m
      unfolding pool_end held_end
      three_held l =
          let t : 3 ≤ near_count r limit m = omega (arith, held_on) in
          rw (le-ltb _ _ p, ← d.model, e, le-ltb _ _ t)
