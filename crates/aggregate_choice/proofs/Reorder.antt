-- Reordering the matches changes no pair. Assumes nothing.
use Prim.Native.Nat.{ℕ}
use mathlib.Core.Path.{◌≡◌}
use mathlib.Core.List.{List}
use native.Mathlib.Omega.{arith}
use lib.ListN.{length}
use Rattle.aggregate_votes.specs.Votes.{Ids, votes_of, votes_at}
use Rattle.aggregate_votes.specs.Reorder.{Reordered}
use Rattle.aggregate_votes.proofs.Reorder.{votes_same}
use Rattle.aggregate_best.proofs.Best.{best_ext}
use Rattle.aggregate_choice.specs.Choice.{chosen_by, pairs_of}
use Rattle.aggregate_choice.proofs.Pairs.{pairs_ext}

module _ (i : Ids) {ms ns : List ℕ} (o : Reordered ms ns) where
  -- a detection chooses as before
  pub choice_same : (d : ℕ) → chosen_by i (votes_of ms) d ≡ chosen_by i (votes_of ns) d
  choice_same d = best_ext i.results (votes_at i (votes_of ms) d) (votes_at i (votes_of ns) d) (length i.results) (λ r h. votes_same i d r o)

  -- and the pairs are the same, in the same order
  pub pairs_same : (n : ℕ) → pairs_of i (votes_of ms) n ≡ pairs_of i (votes_of ns) n
  unfolding pairs_of
  pairs_same n = pairs_ext i.results (chosen_by i (votes_of ms)) (chosen_by i (votes_of ns)) n (λ d h. choice_same d) n (omega arith)
