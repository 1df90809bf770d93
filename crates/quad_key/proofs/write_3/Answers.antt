-- `quad_key::write_3` meets its contract: three stores, one after another. Assumes nothing.
use Rattle.std.proofs.Common.{add-one, arith, length-set}
use native.Mathlib.Numerals.{add-two}
use Rattle.quad_key.proofs.write_3.Goals as goal

pub bounds-keys-at-2 : goal.bounds-keys-at-2
bounds-keys-at-2 c = simp length-set (omega arith)

pub bounds-keys-at-3 : goal.bounds-keys-at-3
bounds-keys-at-3 c = simp length-set (omega arith)

pub returns : goal.returns
returns c = simp (add-one, add-two)
