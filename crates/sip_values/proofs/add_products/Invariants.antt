-- `sip_values::add_products` meets its contract: after k rows the first k sums have their products. Assumes nothing.
use Rattle.sip_values.specs.Values.{product_at}
use Rattle.cd_plate.proofs.Filling.{Front}
use lib.ListN.{length}
use mathlib.Core.Path.{◌≡◌}
use Prim.Native.Nat.{◌≤◌}
use Rattle.sip_values.proofs.add_products.Given as goal

abbrev pub invariant-loop-k : goal.invariant-loop-k
invariant-loop-k l = Front (product_at l.c l.x l.y l.initial.s) l.initial.s l.s l.k × (l.k ≤ l.n) × (l.n ≡ length l.initial.s)
