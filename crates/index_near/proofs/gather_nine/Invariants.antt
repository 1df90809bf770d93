-- `index_near::gather_nine` meets its contract: those found, and then those of the runs left, are all. Assumes nothing.
use Rattle.std.proofs.Common.{ℕ, ◌+◌, ◌-◌, ◌≤◌, List}
use Rattle.hash_near.specs.Over.{over}
use Rattle.hash_near.proofs.Near.{Found}
use Rattle.index_near.specs.Near.{hits, last_of}
use Rattle.index_near.proofs.Splits.{run_of}
use Rattle.index_near.proofs.gather_nine.Given as goal

abbrev pub part : List ℕ → ℕ → ℕ → ℕ → List ℕ
part table m from e = hits table m (run_of from e) (run_of from e + 2)

abbrev pub invariant-loop-e : goal.invariant-loop-e
invariant-loop-e l = (l.e ≤ 9) × Found l.initial.found l.n (hits l.table l.m l.from (last_of l.from)) l.found l.q (over (part l.table l.m l.from) l.e (9 - l.e))
