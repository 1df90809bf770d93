-- `record::terms_size` meets its contract: the loop's invariant: what is counted, and what the coefficients that are left take, come to the whole. Assumes nothing.
use lib.ListN.{drop}
use mathlib.Core.Path.{◌≡◌}
use Prim.Native.Nat.{◌≤◌, ◌+◌, ◌*◌}
use Rattle.record.specs.Record.{terms_size}
use Rattle.record.proofs.terms_size.Given as goal

abbrev pub invariant-loop-c : goal.invariant-loop-c
invariant-loop-c l = (l.m + terms_size (drop l.c-index l.cs) ≡ terms_size l.cs) × (l.m ≤ 23 * l.c-index)
