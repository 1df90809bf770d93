-- `index_near::gather_keys` meets its contract: those found, and then those of the nines left, are all. Assumes nothing.
use Rattle.std.proofs.Common.{ℕ, ◌-◌, ◌*◌, ◌≤◌, List, get_or}
use Rattle.hash_near.specs.Over.{over}
use Rattle.hash_near.proofs.Near.{Found}
use Rattle.index_near.specs.Near.{one_hits, key_hits}
use Rattle.index_near.proofs.gather_keys.Given as goal

abbrev pub part : List ℕ → ℕ → List ℕ → ℕ → List ℕ
part table m keys g = over (one_hits table m (λ n. get_or keys n 0)) (9 * g) 9

abbrev pub invariant-loop-g : goal.invariant-loop-g
invariant-loop-g l = (l.g ≤ 9) × Found l.initial.found l.n (key_hits l.table l.m (λ n. get_or l.keys n 0)) l.found l.q (over (part l.table l.m l.keys) l.g (9 - l.g))
