-- What the CD run writes beside its mask. Definitions only.
use Rattle.answer.specs.declared.Refusal.{Refusal}
use Rattle.std.specs.Prelude.{ℕ, Result, Ok, Err}
use Rattle.cd_run.specs.declared.CdRun.{CdRun}
use Rattle.cd_run.specs.declared.CdRun.TheVariants as run

-- 1 of a run that is fitted, 0 of one that is untested; a refusal leaves what was there
abbrev pub tested_after : Result CdRun Refusal → ℕ → ℕ
tested_after (Ok (run.Fitted on)) old = 1
tested_after (Ok (run.Untested on)) old = 0
tested_after (Err why) old = old

-- how many rows are on; a refusal leaves what was there
abbrev pub on_after : Result CdRun Refusal → ℕ → ℕ
on_after (Ok (run.Fitted on)) old = on
on_after (Ok (run.Untested on)) old = on
on_after (Err why) old = old
