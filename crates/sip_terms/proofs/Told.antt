-- Lists that are told number by number. Assumes nothing.
use mathlib.Core.Path.{◌≡◌, refl, ap, ◌∙◌}
use mathlib.Core.List.{List, ◌∷◌, ◌++◌}
use Prim.Native.Nat.{ℕ, zero, suc, ◌+◌, ◌≤◌, ◌<◌}
use native.Mathlib.Nat.{add-zero, not-suc-le-zero, le_of_suc-le-suc}
use native.Mathlib.Omega.{arith}
use lib.ListN.{length, get_or, take, drop, replicate}
use lib.Seq.{get_or-drop, get_or-append-add}
use Rattle.cd_plate.specs.Filled.{filled}
use Rattle.cd_plate.proofs.Filling.{filled_length}

-- two lists told alike are the same
pub filled_same : {A : Type 0} (f g : ℕ → A) (n : ℕ) → ((i : ℕ) → i < n → f i ≡ g i) → filled f n ≡ filled g n
unfolding filled
filled_same f g zero e = refl
filled_same f g (suc n) e = rw (filled_same f g n (λ i h. e i (omega arith)), e n (omega arith))

-- behind what is filled stands what stood there
pub front_at : {A : Type 0} (f : ℕ → A) (k : ℕ) (old : List A) (d : A) → get_or (filled f k ++ drop k old) k d ≡ get_or old k d
front_at f k old d =
    let e : length (filled f k) + 0 ≡ k = add-zero (length (filled f k)) ∙ filled_length f k in
    let g : get_or (filled f k ++ drop k old) (length (filled f k) + 0) d ≡ get_or (drop k old) 0 d = get_or-append-add (filled f k) (drop k old) 0 d in
    (rw e at g) ∙ get_or-drop k old 0 d ∙ rw (add-zero k)

-- a part of a list of one number
pub take_replicate : {A : Type 0} (n m : ℕ) (a : A) → n ≤ m → take n (replicate m a) ≡ replicate n a
take_replicate zero m a h = refl
take_replicate (suc n) zero a h = absurd (not-suc-le-zero h)
take_replicate {A} (suc n) (suc m) a h = ap (λ (t : List A). a ∷ t) (take_replicate n m a (le_of_suc-le-suc h))
