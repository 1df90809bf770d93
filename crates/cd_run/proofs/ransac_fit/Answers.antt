-- `cd_run::ransac_fit` meets its contract: the tests decide; the rest of the contract follows from the answer and the mask. Assumes nothing.
use Rattle.cd_run.proofs.Run.{run_refused, run_done}
use Rattle.cd_run.proofs.Ending.{tests_passed}
use Rattle.cd_pool.proofs.Pools.{pool_below}
use Rattle.rows.specs.Rows.{rows}
use lib.ListN.{length}
use Rattle.std.specs.Prelude.{Err}
use Rattle.std.proofs.lemmas.Result.{err_from_is_err_and}
use mathlib.Core.Path.{◌≡◌, ◌∙◌, sym, ap}
use Rattle.cd_run.proofs.ransac_fit.Goals as goal

pub pool_of-count-requires : goal.pool_of-count-requires
pool_of-count-requires c =
    let k = tests_passed _ _ _ _ _ (sym c.check_run.ensures ∙ c.in_ok-check_run.was) in record { fact_1 = k.few_votes; fact_2 = ap length c.no_places-places.ensures }

pub slice_bounds-run_pool-end : goal.slice_bounds-run_pool-end
slice_bounds-run_pool-end c = c.pool_of-count.ensures.0 ∙ sym (ap length c.pool_of-count.ensures.1)

pub run_pool-requires : goal.run_pool-requires
run_pool-requires c =
    let k = tests_passed _ _ _ _ _ (sym c.check_run.ensures ∙ c.in_ok-check_run.was) in
    let a = c.args in record { py_len_1 = k.py_long; py_len_2 = k.xi_long; py_len_3 = k.eta_long; px_len_bound_1 = k.few_rows_lem; px_len_bound_2 = k.room; px_len_bound_3 = k.limit_good; px_len_bound_4 = rw c.pool_of-count.ensures.1 (λ i h. (pool_below a.votes.now (length a.px.now) i h).0) }

pub returns-in_err-check_run : goal.returns-in_err-check_run
returns-in_err-check_run c =
    let a = c.args in let it = run_refused (rows a.px.now a.py.now a.xi.now a.eta.now) a.votes.now a.limit a.trials a.mask.now _ (sym c.check_run.ensures ∙ c.in_err-check_run.was) in
    let same = err_from_is_err_and c.from_residual.result c.from_residual.ensures.1 in
    let back : c.from_residual.result ≡ Err _ = same.1 ∙ ap Err same.2 in rw back (record { answer = it.0; mask = it.1.0; fitted = it.1.1.0; untested = it.1.1.1.0; nine = it.1.1.1.1.0; more = it.1.1.1.1.1 })

pub returns : goal.returns
returns c =
    let a = c.args in let it = run_done (rows a.px.now a.py.now a.xi.now a.eta.now) a.votes.now a.limit a.trials a.mask.now (sym c.check_run.ensures ∙ c.in_ok-check_run.was) _ c.pool_of-count.ensures.1 _ _ c.run_pool.ensures.answer c.run_pool.ensures.mask in record { answer = it.0; mask = it.1.0; fitted = it.1.1.0; untested = it.1.1.1.0; nine = it.1.1.1.1.0; more = it.1.1.1.1.1 }
