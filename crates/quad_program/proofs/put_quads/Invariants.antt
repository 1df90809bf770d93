-- `quad_program::put_quads` meets its contract: the loop's invariant: what is put, and the lines of the quads that are left, come to the whole; and each quad took at most 42 bytes.
use Rattle.quad_program.specs.Print.{all_lines}
use Rattle.put.proofs.Writing.{Going}
use lib.ListN.{drop}
use Prim.Native.Nat.{◌+◌, ◌*◌, ◌-◌, ◌≤◌}
use Rattle.quad_program.proofs.put_quads.Given as goal

abbrev pub invariant-loop-i : goal.invariant-loop-i
invariant-loop-i l = Going l.initial.buf l.at (all_lines l.n l.places l.hashes) l.buf l.m (all_lines (l.n - l.i) (drop (4 * l.i) l.places) (drop (4 * l.i) l.hashes)) × (l.m ≤ l.at + 42 * l.i)
