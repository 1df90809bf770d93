-- `quad::write_one` meets its contract. Assumes nothing.
use Prim.Native.Nat.{◌+◌, ◌≤◌}
use mathlib.Core.Path.{refl, sym}
use native.Mathlib.Omega.{arith}
use native.Mathlib.Numerals.{add-one, add-two, add-three}
use native.Mathlib.Nat.{add-zero}
use lib.ListN.{length, length-set}
use Rattle.quad.proofs.write_one.Goals.{In-Kept}
use Rattle.quad.proofs.write_one.Goals as goal

-- a kept quad has room for four in both lists
room : (c : In-Kept) → (c.args.p + 4 ≤ length c.args.places.now) × (c.args.p + 4 ≤ length c.args.hashes.now)
room c = (rw c.in-Kept.is at c.requires.fact_1, rw c.in-Kept.is at c.requires.fact_2)

pub bounds-places-p : goal.bounds-places-p
bounds-places-p c = let r = room c in omega arith

pub bounds-places-p-in-Kept : goal.bounds-places-p-in-Kept
bounds-places-p-in-Kept c = let r = room c in simp length-set (omega arith)

pub bounds-places-p-in-Kept-2 : goal.bounds-places-p-in-Kept-2
bounds-places-p-in-Kept-2 c = let r = room c in simp length-set (omega arith)

pub bounds-places-p-in-Kept-3 : goal.bounds-places-p-in-Kept-3
bounds-places-p-in-Kept-3 c = let r = room c in simp length-set (omega arith)

pub bounds-hashes-p : goal.bounds-hashes-p
bounds-hashes-p c = let r = room c in omega arith

pub bounds-hashes-p-in-Kept : goal.bounds-hashes-p-in-Kept
bounds-hashes-p-in-Kept c = let r = room c in simp length-set (omega arith)

pub bounds-hashes-p-in-Kept-2 : goal.bounds-hashes-p-in-Kept-2
bounds-hashes-p-in-Kept-2 c = let r = room c in simp length-set (omega arith)

pub bounds-hashes-p-in-Kept-3 : goal.bounds-hashes-p-in-Kept-3
bounds-hashes-p-in-Kept-3 c = let r = room c in simp length-set (omega arith)

pub returns-in-Kept : goal.returns-in-Kept
returns-in-Kept c = rw c.in-Kept.is (simp (add-one, add-two, add-three) (refl, refl, refl))

pub returns-in-Short : goal.returns-in-Short
returns-in-Short c = rw c.in-Short.is (sym (add-zero _), refl, refl)

pub returns-in-Degenerate : goal.returns-in-Degenerate
returns-in-Degenerate c = rw c.in-Degenerate.is (sym (add-zero _), refl, refl)
