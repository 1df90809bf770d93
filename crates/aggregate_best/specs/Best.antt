-- Which result each detection chooses. Definitions only.
use Rattle.std.specs.Prelude.{ℕ, zero, suc, ◌<◌, ◌≡◌, Bool, cond, ◌&&◌, ◌||◌, List, ◌⊎◌, eqb, ltb, ℤ, pos, get_or, ◌≤ℤ◌}
use Rattle.std.specs.Int.Signed.{lt_z}
use Rattle.aggregate_best.specs.declared.Choice.{Choice}

-- the catalogue id of a choice
abbrev pub id_of : List ℤ → Choice → ℤ
id_of results c = get_or results c.at.0 (pos 0)

-- whether result r, with v votes, is better than a choice: more votes, or as many and a smaller catalogue id
unfoldable pub better : List ℤ → Choice → ℕ → ℕ → Bool
better results c r v = ltb c.votes v || (eqb c.votes v && lt_z (get_or results r (pos 0)) (id_of results c))

-- the choice after result r, with v votes; without votes it is not chosen
unfoldable pub choose : List ℤ → Choice → ℕ → ℕ → Choice
choose results c r v = cond (eqb v 0) c (cond (better results c r v) (record { at = record { 0 = r }; votes = v }) c)

-- the best of the first n results, where result r has w r votes
abbrev pub best : List ℤ → (ℕ → ℕ) → ℕ → Choice
best results w zero = record { at = record { 0 = 0 }; votes = 0 }
best results w (suc r) = choose results (best results w r) r (w r)

-- v votes for catalogue id z are no better than a choice: fewer votes, or as many and an id that is not smaller
abbrev pub NoBetter : List ℤ → Choice → ℕ → ℤ → Type 0
NoBetter results c v z = (v < c.votes) ⊎ ((v ≡ c.votes) × (id_of results c ≤ℤ z))
