-- `quad_lists::word_of` meets its contract. Assumes nothing.
use Prim.Native.Nat.{ℕ, ◌+◌, ◌<◌}
use mathlib.Core.Path.{◌≡◌}
use mathlib.Core.Bool.{◌||◌}
use lib.ListN.{drop}
use Rattle.quad_visit.specs.Visit.{memb}
use Rattle.quad_lists.specs.Lists.{bit}
use Rattle.quad_lists.proofs.word_of.Given as goal

abbrev pub invariant-loop-q : goal.invariant-loop-q
invariant-loop-q l = (v : ℕ) → v < 64 → (bit l.word v || memb (l.from + v) (drop l.q-index l.list)) ≡ memb (l.from + v) l.list
