-- With the table that the build gives, the search by it keeps every promise of the plain search, on every pair of lists. Assumes nothing.
use Rattle.answer.specs.declared.Refusal.{Refusal}
use Rattle.std.specs.Prelude.{Result, Ok, Err}
use mathlib.Core.Path.{◌≡◌, refl, sym, ap}
use mathlib.Core.Bool.{true}
use mathlib.Core.List.{List}
use Prim.Native.Nat.{ℕ, ◌/◌}
use lib.Ieee.{Float}
use lib.ListN.{length}
use Rattle.answer.specs.Answers.{answer_number}
use Rattle.answer.proofs.Numbers.{not_done}
use Rattle.index_table.specs.Table.{belongs}
use Rattle.index_build.specs.Build.{build_answer}
use Rattle.index_build.proofs.Belongs.{built_belongs}
use Rattle.index_find.proofs.Same.{same_answer}
use Rattle.matching_face.specs.Face.{matches_done, MatchesFound}
use Rattle.matching_face.specs.Index.{IndexBuilt, IndexedFound}

is_done : (a : Result Unit Refusal) → answer_number a ≡ 0 → a ≡ Ok tt
is_done (Ok tt) e = refl
is_done (Err why) e = absurd (not_done why e)

-- what the build wrote belongs to its list
pub built_own : (hashes : List Float) (old new : List ℕ) → IndexBuilt hashes old 0 new → belongs new hashes (length hashes / 4) ≡ true
built_own hashes old new b =
    let d : build_answer (length hashes) (length old) ≡ (Ok tt) = is_done _ (sym b.number) in
    built_belongs hashes old (Ok tt) new (record { answer = sym d; table = rw d at b.table }) refl

-- such a search keeps the promise of the plain one
pub as_plain : (places : List ℕ) (hashes : List Float) (catalogue : List ℕ) (others : List Float) {words table old : List ℕ} {before r : ℕ} {new : List ℕ} {found : ℕ}
    → IndexBuilt others words 0 table → IndexedFound places hashes catalogue others table old before r new found → MatchesFound places hashes catalogue others old before r new found
as_plain places hashes catalogue others {words} {table} {old} b f =
    rw (ap matches_done (same_answer places hashes catalogue others table (length old) (built_own others words table b))) at f
