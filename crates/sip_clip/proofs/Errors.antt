-- The errors of rows whose polynomials' values are taken from lists. Assumes nothing.
use mathlib.Core.Path.{◌≡◌}
use mathlib.Core.List.{List}
use Prim.Native.Nat.{ℕ, ◌≤◌, ◌<◌}
use lib.ListN.{length, get_or}
use lib.Ieee.{Float, nan}
use Rattle.rows.specs.Rows.{Rows, count}
use Rattle.cd_plate.specs.Filled.{filled}
use Rattle.cd_plate.proofs.Filling.{filled_at}
use Rattle.wcs.specs.declared.Wcs.{Wcs}
use Rattle.elimination_rows.specs.Matrix.{cells}
use Rattle.sip_terms.specs.Terms.{value_of}
use Rattle.sip_terms.proofs.Told.{filled_same}
use Rattle.sip_sums.specs.Field.{offset_at}
use Rattle.sip_values.specs.Values.{Powers, value_in}
use Rattle.sip_values.proofs.Summing.{value_held}
use Rattle.sip_clip.specs.Clip.{error_of, error_at, errors_of}
use Rattle.sip_clip.specs.Steps.{error_in}

module _ (r : Rows) (w : Wcs) (up vp : List Float) (told : Powers r w up vp) where
  -- the values by the tables are those of the definition
  value_read : (cs x : List Float) → length cs ≤ 18 → x ≡ filled (value_in cs (cells up (count r)) (cells vp (count r)) (length cs)) (count r)
      → (k : ℕ) → k < count r → get_or x k nan ≡ value_of cs (offset_at r w k).u (offset_at r w k).v
  value_read cs x h e k g =
      rw (e, filled_at (value_in cs (cells up (count r)) (cells vp (count r)) (length cs)) (count r) k nan g)
      (value_held cs (cells up (count r)) (cells vp (count r)) (offset_at r w k).u (offset_at r w k).v k (λ p i. told.held_u p k i g) (λ p i. told.held_v p k i g) (length cs) h)

  pub errors_are : (mask : List ℕ) (a b x y : List Float) → length a ≤ 18 → length b ≤ 18
      → x ≡ filled (value_in a (cells up (count r)) (cells vp (count r)) (length a)) (count r) → y ≡ filled (value_in b (cells up (count r)) (cells vp (count r)) (length b)) (count r)
      → filled (error_in r w mask x y) (count r) ≡ errors_of r w mask a b
  unfolding error_of
  errors_are mask a b x y h g ex ey =
      filled_same (error_in r w mask x y) (error_at r w mask a b) (count r) (λ k i. rw (value_read a x h ex k i, value_read b y g ey k i))
