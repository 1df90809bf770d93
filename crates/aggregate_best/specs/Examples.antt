-- A worked example, by computation.
use Rattle.std.specs.Prelude.{◌≡◌, refl, [], ◌∷◌, pos, negsuc}
use Rattle.aggregate_best.specs.Best.{id_of, better, choose, best}

-- of as many votes the smaller catalogue id is chosen, and -9 is below -8 and 7
tie : id_of (pos 7 ∷ negsuc 7 ∷ negsuc 8 ∷ []) (best (pos 7 ∷ negsuc 7 ∷ negsuc 8 ∷ []) (λ r. 2) 3) ≡ negsuc 8
unfolding better choose
tie = refl
