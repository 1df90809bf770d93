-- `cd_run::run_pool` meets its contract: each return has its end, and a refusal keeps the mask. Assumes nothing.
use Rattle.std.specs.Prelude.{Ok}
use lib.ListN.{length}
use Prim.Native.Nat.{◌≤◌, ◌<◌}
use Rattle.cd_run.proofs.Ending.{ended, small_pool, none_held, few_held, three_held, held_on}
use Rattle.cd_run.specs.declared.CdRun.TheVariants.{Fitted}
use Rattle.cd_near.specs.Near.{near_marks}
use Rattle.cd_trial.specs.Held.{IsHeld}
use Rattle.cd_trial.specs.Trial.{model_of, best_of}
use Rattle.answer.specs.Answers.{written}
use Rattle.rows.specs.Rows.{rows}
use native.Mathlib.Omega.{arith}
use mathlib.Core.Path.{refl, ap, ◌∙◌, subst}
use Rattle.cd_run.proofs.run_pool.Goals.{After-search-held}
use Rattle.cd_run.proofs.run_pool.Goals as goal

-- what the search held, under the limit that its reach is of
held : (c : After-search-held) → let a = c.args in let r = rows a.px.now a.py.now a.xi.now a.eta.now in IsHeld r a.limit a.pool.now (best_of r a.limit a.pool.now a.trials) c.search-held.result
held c =
    let a = c.args in
    let r = rows a.px.now a.py.now a.xi.now a.eta.now in
    subst (λ l. IsHeld r l a.pool.now (best_of r l a.pool.now a.trials) c.search-held.result) c.of-reach.ensures.0 c.search-held.ensures

pub returns-then-pool-lt-LEAST_ROWS : goal.returns-then-pool-lt-LEAST_ROWS
returns-then-pool-lt-LEAST_ROWS c =
    let few : length c.args.pool.now < 3 = omega (arith, c.if-pool-lt-LEAST_ROWS.true) in let it = ended _ _ _ _ _ _ _ (small_pool _ _ _ _ few) refl c.fill_ones.ensures in record { answer = it.0; mask = it.1 }

pub of-reach-requires : goal.of-reach-requires
of-reach-requires c = c.requires.px_len_bound_3

pub search-held-requires : goal.search-held-requires
search-held-requires c = record { py_len_1 = c.requires.py_len_1; py_len_2 = c.requires.py_len_2; py_len_3 = c.requires.py_len_3; px_len_bound_1 = c.requires.px_len_bound_1; px_len_bound_2 = record { some_place = omega (arith, c.if-pool-lt-LEAST_ROWS.false); has_row = c.requires.px_len_bound_4 }; px_len_bound_3 = c.of-reach.ensures.1 }

pub returns-then-on-lt-LEAST_ROWS : goal.returns-then-on-lt-LEAST_ROWS
returns-then-on-lt-LEAST_ROWS c =
    let p : 3 ≤ length c.args.pool.now = omega (arith, c.if-pool-lt-LEAST_ROWS.false) in
    let few : c.search-held.result.on < 3 = omega (arith, c.if-on-lt-LEAST_ROWS.true) in let it = ended _ _ _ _ _ _ _ (few_held _ _ _ _ c.search-held.result (held (goal.at.returns-then-on-lt-LEAST_ROWS c).After-search-held) p _ (ap model_of c.in-Ok.is) few) refl refl in record { answer = it.0; mask = it.1 }

pub mark_near-requires : goal.mark_near-requires
mark_near-requires c = record { fact_1 = c.requires.py_len_1; fact_2 = c.requires.py_len_2; fact_3 = c.requires.py_len_3; fact_4 = c.requires.px_len_bound_2; fact_5 = c.of-reach.ensures.1 }

pub returns-in-Err : goal.returns-in-Err
returns-in-Err c =
    let p : 3 ≤ length c.args.pool.now = omega (arith, c.if-pool-lt-LEAST_ROWS.false) in let it = ended _ _ _ _ _ _ _ (none_held _ _ _ _ c.search-held.result (held (goal.at.returns-in-Err c).After-search-held) p (ap model_of c.in-Err.is)) refl refl in record { answer = it.0; mask = it.1 }

pub returns-else-on-lt-LEAST_ROWS : goal.returns-else-on-lt-LEAST_ROWS
returns-else-on-lt-LEAST_ROWS c =
    let a = c.args in
    let r = rows a.px.now a.py.now a.xi.now a.eta.now in
    let p : 3 ≤ length a.pool.now = omega (arith, c.if-pool-lt-LEAST_ROWS.false) in
    let three : 3 ≤ c.search-held.result.on = omega (arith, c.if-on-lt-LEAST_ROWS.false) in
    let e = ap model_of c.in-Ok.is in
    let on = held_on r a.limit a.pool.now a.trials c.search-held.result (held (goal.at.returns-else-on-lt-LEAST_ROWS c).After-search-held) p _ e in
    let marked = c.mark_near.ensures ∙ ap (λ l. written (near_marks r l c.in-Ok.m) a.mask.now) c.of-reach.ensures.0 in let it = ended _ _ _ _ _ _ _ (three_held r a.limit a.pool.now a.trials c.search-held.result (held (goal.at.returns-else-on-lt-LEAST_ROWS c).After-search-held) p _ e three) (ap (λ k. Ok (Fitted k)) on) marked in record { answer = it.0; mask = it.1 }
