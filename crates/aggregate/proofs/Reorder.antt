-- Reordering the matches changes neither the answer nor an output. Assumes nothing.
use Prim.Native.Nat.{ℕ}
use mathlib.Core.Path.{◌≡◌, refl, ◌∙◌, ap}
use mathlib.Core.List.{List, [], ◌∷◌, map}
use native.Mathlib.Omega.{arith}
use lib.ListN.{length, length-append}
use Rattle.aggregate_votes.specs.Reorder.{Reordered, same, swap, keep, after}
use Rattle.aggregate_votes.proofs.Reorder.{missing_same}
use Rattle.aggregate_best.specs.declared.Choice.{Choice}
use Rattle.aggregate_choice.proofs.Reorder.{choice_same, pairs_same}
use Rattle.aggregate.specs.Extract.{Given, given, Room, ids_in, found, choice_in, input_answer, pairs_answer}

length_same : {ms ns : List ℕ} → Reordered ms ns → length ms ≡ length ns
length_same same = refl
length_same (swap a b ms h g) = rw (length-append, length-append, length-append, length-append) (omega arith)
length_same (keep a {ms} {ns} h r) = rw (length-append a ms, length-append a ns, length_same r)
length_same (after r s) = length_same r ∙ length_same s

map_ext : {A : Type 0} (f g : ℕ → A) (l : List ℕ) → ((d : ℕ) → f d ≡ g d) → map f l ≡ map g l
map_ext f g [] e = refl
map_ext f g (d ∷ l) e = rw (e d, map_ext f g l e)

-- the same input with other matches
abbrev pub matching : Given → List ℕ → Given
matching g ms = given ms g.xs g.ys g.snrs g.images g.catalogue g.results g.ras g.decs

module _ (g : Given) (ns : List ℕ) (o : Reordered g.matches ns) where
  pub answer_same : (room : Room) → pairs_answer g room ≡ pairs_answer (matching g ns) room
  unfolding pairs_answer input_answer
  answer_same room = rw (length_same o, missing_same (ids_in g) (length g.xs) o, pairs_same (ids_in g) o (length g.xs))

  -- each output is such a list: a value of each pair, by its choice and its detection
  pub output_same : {A : Type 0} (f : Choice → ℕ → A) → map (λ d. f (choice_in g d) d) (found g) ≡ map (λ d. f (choice_in (matching g ns) d) d) (found (matching g ns))
  output_same {A} f =
      map_ext (λ d. f (choice_in g d) d) (λ d. f (choice_in (matching g ns) d) d) (found g) (λ d. ap (λ (c : Choice). f c d) (choice_same (ids_in g) o d))
      ∙ ap (map (λ d. f (choice_in (matching g ns) d) d)) (pairs_same (ids_in g) o (length g.xs))
