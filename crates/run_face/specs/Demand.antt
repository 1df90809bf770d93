-- No trial had a better plate, in the terms of C: the number, `*tested`, `*on` and the mask after a call. Definitions only.
use Rattle.std.specs.Prelude.{◌≡◌, List, ℕ, Float}
use Rattle.rows.specs.Rows.{Rows, count}
use Rattle.cd_pool.specs.Pool.{pool_of}
use Rattle.cd_run.specs.Run.{run_answer}
use Rattle.cd_run.specs.Demand.{FittedBest, AllOn, NoneHasThree, StillFitted}

-- what is demanded of a call with a mask of so many places: done and tested, it is fitted to the best plate, and so it is with more
-- trials; done and untested, every row is on; and with number 9 no triple that can be fitted has three rows
pub record Demanded (r : Rows) (votes : List ℕ) (limit : Float) (trials places number tested on : ℕ) (mask : List ℕ) : Type 0 where
  pub fitted : number ≡ 0 → tested ≡ 1 → FittedBest r limit (pool_of votes (count r)) trials on mask
  pub untested : number ≡ 0 → tested ≡ 0 → AllOn r (pool_of votes (count r)) on mask
  pub nine : number ≡ 9 → NoneHasThree r limit (pool_of votes (count r)) trials
  pub more : number ≡ 0 → tested ≡ 1 → StillFitted (λ n. run_answer r votes limit n places) trials on
