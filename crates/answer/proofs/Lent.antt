-- What is written from the front of a lent list. Assumes nothing.
use Rattle.answer.specs.declared.Refusal.{Refusal}
use Rattle.std.specs.Prelude.{Result, Ok, Err}
use mathlib.Core.Path.{◌≡◌, refl, ◌∙◌}
use mathlib.Core.List.{List, []}
use Prim.Native.Nat.{◌≤◌}
use native.Mathlib.Omega.{arith}
use native.Mathlib.Nat.{zero-add}
use lib.ListN.{length}
use lib.Seq.{sets, sets-eq}
use Rattle.answer.specs.Answers.{written, lent_after}

-- stores one after another from the front
pub front : {A : Type 0} (vs old : List A) → length vs ≤ length old → sets old 0 vs ≡ written vs old
front vs old h = sets-eq vs old 0 (omega arith) ∙ rw (zero-add (length vs))

-- where nothing is written the list stays, done or refused
pub stays : {A : Type 0} (a : Result Unit Refusal) (old : List A) → old ≡ lent_after a [] old
stays (Ok tt) old = refl
stays (Err why) old = refl
