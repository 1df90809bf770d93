-- `index_near::gather_three` meets its contract: those found, and then those of the ranges left, are all. Assumes nothing.
use Rattle.std.proofs.Common.{ℕ, ◌+◌, ◌-◌, ◌*◌, ◌^◌, ◌≤◌, List}
use Rattle.hash_near.specs.Over.{over}
use Rattle.hash_near.proofs.Near.{Found}
use Rattle.index_near.specs.Near.{hits, last_of, three_hits}
use Rattle.index_near.proofs.gather_three.Given as goal

abbrev pub part : List ℕ → ℕ → ℕ → ℕ → List ℕ
part table m first d = hits table m (first + d * 2 ^ 48) (last_of (first + d * 2 ^ 48))

abbrev pub invariant-loop-d : goal.invariant-loop-d
invariant-loop-d l = (l.d ≤ 3) × Found l.initial.found l.n (three_hits l.table l.m l.first) l.found l.q (over (part l.table l.m l.first) l.d (3 - l.d))
