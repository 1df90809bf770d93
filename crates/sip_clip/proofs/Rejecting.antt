-- One clip, row by row, and what it leaves where it turns nothing off. Assumes nothing.
use mathlib.Core.Path.{◌≡◌, refl, sym}
use mathlib.Core.Bool.{Bool, true, false, not, ◌&&◌}
use mathlib.Core.List.{List}
use Prim.Native.Nat.{ℕ, zero, suc, ◌+◌, ◌≤◌, ◌<◌}
use native.Mathlib.Omega.{arith}
use lib.Dec.{eqb}
use lib.ListN.{length}
use lib.Ieee.{Float, nan}
use borrow.Author.Tests.{eqb-true, eqb-false}
use Rattle.rows.specs.Rows.{Rows, count}
use Rattle.cd_mask.specs.Marks.{byte_of}
use Rattle.cd_mask.proofs.Marking.{byte_le}
use Rattle.cd_plate.specs.Masked.{is_on}
use Rattle.cd_plate.specs.Filled.{filled}
use Rattle.cd_plate.proofs.Filling.{filled_at}
use Rattle.wcs.specs.declared.Wcs.{Wcs}
use Rattle.sip_terms.proofs.Told.{filled_same}
use Rattle.sip_clip.specs.Clip.{error_at, errors_of, root_at, roots_of, is_past, rejected_to, byte_at, clipped, clip_by, limit_in, clip_of}
use Rattle.sip_clip.specs.Steps.{past_in, rejected_in, mask_in}

-- no more are turned off than there are
pub rejected_few : (past : ℕ → Bool) (mask : List ℕ) (k : ℕ) → rejected_to past mask k ≤ k
unfolding rejected_to
rejected_few past mask zero = omega arith
rejected_few past mask (suc k) = omega (arith, rejected_few past mask k, byte_le (is_on mask k && past k))

-- two tests that agree on the rows clip alike
rejected_same : (p q : ℕ → Bool) (mask : List ℕ) (k : ℕ) → ((i : ℕ) → i < k → p i ≡ q i) → rejected_to p mask k ≡ rejected_to q mask k
unfolding rejected_to
rejected_same p q mask zero e = refl
rejected_same p q mask (suc k) e = rw (rejected_same p q mask k (λ i h. e i (omega arith)), e k (omega arith))

clip_same : (p q : ℕ → Bool) (mask : List ℕ) → ((i : ℕ) → i < length mask → p i ≡ q i) → clip_by p mask ≡ clip_by q mask
clip_same p q mask e =
    rw (rejected_same p q mask (length mask) e, filled_same (byte_at p mask) (byte_at q mask) (length mask) (λ i h. rw (e i h)))

-- so the roots may be taken from a list
pub clip_done : (snr es : List Float) (mask new : List ℕ) (roots : List Float) (limit : Float) (r : ℕ) → length snr ≡ length mask → roots ≡ roots_of snr → limit ≡ limit_in snr mask es
    → r ≡ rejected_in mask es roots limit (length mask) → new ≡ mask_in mask es roots limit → clipped new r ≡ clip_of snr mask es
unfolding clip_of
clip_done snr es mask new roots limit r h er el ec em =
    rw (ec, em) (clip_same (past_in es roots limit) (is_past snr es (limit_in snr mask es)) mask (λ i g. rw (el, er, filled_at (root_at snr) (length snr) i nan (rw h g))))

-- a row of the new mask is on where it was and is not past the limit
on_byte : (b : Bool) → eqb (byte_of b) 1 ≡ b
on_byte true = refl
on_byte false = refl

none_past : (on past : Bool) → byte_of (on && past) ≡ 0 → (on && not past) ≡ on
none_past true true h = let z : ◌≡◌ {A = ℕ} 0 1 = sym h in absurd (omega arith)
none_past true false h = refl
none_past false past h = refl

grows : (past : ℕ → Bool) (mask : List ℕ) (n k : ℕ) → k < n → byte_of (is_on mask k && past k) ≤ rejected_to past mask n
unfolding rejected_to
grows past mask zero k g = absurd (omega arith)
grows past mask (suc n) k g = go (eqb k n) refl (λ l. grows past mask n k l)
  where
    go : (b : Bool) → eqb k n ≡ b → (k < n → byte_of (is_on mask k && past k) ≤ rejected_to past mask n) → byte_of (is_on mask k && past k) ≤ rejected_to past mask n + byte_of (is_on mask n && past n)
    go true e r = rw (eqb-true k n e) (omega arith)
    go false e r = omega (arith, r (omega (arith, eqb-false k n e)))

none_at : (past : ℕ → Bool) (mask : List ℕ) (n k : ℕ) → rejected_to past mask n ≡ 0 → k < n → byte_of (is_on mask k && past k) ≡ 0
none_at past mask n k h g = omega (arith, grows past mask n k g)

-- where none is turned off each row stays as it was
pub stays_on : (past : ℕ → Bool) (mask : List ℕ) (k : ℕ) → rejected_to past mask (length mask) ≡ 0 → k < length mask → is_on (filled (byte_at past mask) (length mask)) k ≡ is_on mask k
stays_on past mask k h g =
    rw (filled_at (byte_at past mask) (length mask) k 0 g, on_byte (is_on mask k && not (past k)), none_past (is_on mask k) (past k) (none_at past mask (length mask) k h g))

-- and so the errors are the same
pub errors_stay : (r : Rows) (w : Wcs) (snr es : List Float) (mask : List ℕ) (a b : List Float) → length mask ≡ count r → (clip_of snr mask es).rejected ≡ 0
    → errors_of r w mask a b ≡ errors_of r w (clip_of snr mask es).mask a b
unfolding clip_of
errors_stay r w snr es mask a b h e =
    filled_same (error_at r w mask a b) (error_at r w (filled (byte_at (is_past snr es (limit_in snr mask es)) mask) (length mask)) a b) (count r)
    (λ i g. rw (stays_on (is_past snr es (limit_in snr mask es)) mask i e (rw h g)))
