-- Two lists that begin alike. Assumes nothing.
use mathlib.Core.Path.{◌≡◌, refl, sym, ap, ◌∙◌}
use mathlib.Core.List.{List, ◌++◌}
use Prim.Native.Nat.{ℕ}
use lib.ListN.{length, take, drop}
use lib.Seq.{take_at, drop_at}

-- what stands at the front of two equal lists is equal, and so are the rests
pub same_front : (us vs xs ys : List ℕ) → length us ≡ length vs → us ++ xs ≡ vs ++ ys → (us ≡ vs) × (xs ≡ ys)
same_front us vs xs ys l e = (
  sym (take_at us xs (length us) refl) ∙ ap (take (length us)) e ∙ take_at vs ys (length us) (sym l),
  sym (drop_at us xs (length us) refl) ∙ ap (drop (length us)) e ∙ drop_at vs ys (length us) (sym l),
)
