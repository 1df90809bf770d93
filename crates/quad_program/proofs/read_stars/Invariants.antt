-- `quad_program::read_stars` meets its contract: the loop's invariant: the stars that were read, before those of the lines that are left, are all stars of the text.
use Rattle.quad_program.proofs.Reading.{before}
use Rattle.quad_program.specs.Form.{stars_from}
use lib.ListN.{length, take}
use Prim.Native.Nat.{◌-◌, ◌≤◌}
use mathlib.Core.Path.{◌≡◌}
use Rattle.quad_program.proofs.read_stars.Given as goal

abbrev pub invariant-loop-p : goal.invariant-loop-p
invariant-loop-p l = (before (take l.n l.xs) (take l.n l.ys) (stars_from (14 - l.n) l.s l.p) ≡ stars_from 14 l.s l.at) × (l.n ≤ 14) × (length l.xs ≡ 14) × (length l.ys ≡ 14)

abbrev pub decreases-loop-p : goal.decreases-loop-p
decreases-loop-p l = 14 - l.n
