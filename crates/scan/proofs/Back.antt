-- A text that is read stands there, and a text that stands there is read. Assumes nothing.
use mathlib.Core.Path.{◌≡◌, refl, sym, ap, ◌∙◌}
use mathlib.Core.Bool.{Bool, true, false, cond}
use mathlib.Core.List.{List, [], ◌∷◌, ◌++◌, append_assoc}
use Prim.Native.Nat.{ℕ, suc, ◌+◌}
use native.Mathlib.Omega.{arith}
use borrow.Author.Tests.{eqb-true}
use lib.Dec.{eqb}
use Rattle.std.proofs.Common.{Ok, Err}
use lib.ListN.{length, length-append, drop}
use lib.Seq.{drop_at, drop-drop}
use Rattle.scan.specs.Read.{wrong, read_bytes}
use Rattle.scan.proofs.Round.{text_read}

-- what is left from the place p on starts with a text that ends at q
abbrev pub Starts : List ℕ → List ℕ → ℕ → ℕ → Type 0
Starts t l p q = (l ≡ t ++ drop (length t) l) × (q ≡ p + length t)

-- bytes that are read stand there
pub bytes_here : (t l : List ℕ) (p q : ℕ) → read_bytes t l p ≡ Ok q → Starts t l p q
unfolding read_bytes
bytes_here [] l p q e = let h : p ≡ q = cc in (refl, omega arith)
bytes_here (t ∷ ts) [] p q e = let z : ◌≡◌ {A = ℕ} 0 1 = cc in absurd (omega arith)
bytes_here (t ∷ ts) (c ∷ cs) p q e = go (eqb c t) refl e (bytes_here ts cs (p + 1) q) where
  go : (b : Bool) → eqb c t ≡ b → cond b (read_bytes ts cs (p + 1)) (Err (wrong p)) ≡ Ok q
      → (read_bytes ts cs (p + 1) ≡ Ok q → Starts ts cs (p + 1) q)
      → (c ∷ cs ≡ t ∷ (ts ++ drop (length ts) cs)) × (q ≡ p + suc (length ts))
  go true w f r =
      let h = r f in
      let k : c ≡ t = eqb-true c t w in
      (λ i. k i ∷ h.0 i, omega (arith, h.1))
  go false w f r = let z : ◌≡◌ {A = ℕ} 0 1 = cc in absurd (omega arith)

-- what is left after a text that stands at a place
pub left_after : (t s ys : List ℕ) (p : ℕ) → drop p s ≡ t ++ ys → drop (p + length t) s ≡ ys
left_after t s ys p e = sym (drop-drop (length t) p s) ∙ ap (drop (length t)) e ∙ drop_at t ys (length t) refl

-- ---- a text stands in s from p up to q

-- a text stands in s from p up to q
abbrev pub Stands : List ℕ → List ℕ → ℕ → ℕ → Type 0
Stands t s p q = (drop p s ≡ t ++ drop q s) × (q ≡ p + length t)

-- what is left from a place on starts with it
pub starts_stands : (t s : List ℕ) (p q : ℕ) → Starts t (drop p s) p q → Stands t s p q
starts_stands t s p q h =
    let d : drop (length t) (drop p s) ≡ drop q s = drop-drop (length t) p s ∙ ap (λ (i : ℕ). drop i s) (sym h.1) in
    (h.0 ∙ ap (λ (l : List ℕ). t ++ l) d, h.1)

-- a text that is read stands there
pub read_stands : (t s : List ℕ) (p q : ℕ) → read_bytes t (drop p s) p ≡ Ok q → Stands t s p q
read_stands t s p q e = starts_stands t s p q (bytes_here t (drop p s) p q e)

-- a text that stands there is read
pub stands_read : (t s : List ℕ) (p q : ℕ) → Stands t s p q → read_bytes t (drop p s) p ≡ Ok q
stands_read t s p q h = rw h.0 (text_read t (drop q s) p ∙ ap Ok (sym h.1))

-- a text and one after it stand there as one
pub stands_both : (t u s : List ℕ) (p q r : ℕ) → Stands t s p q → Stands u s q r → Stands (t ++ u) s p r
stands_both t u s p q r h g =
    (h.0 ∙ ap (λ (l : List ℕ). t ++ l) g.0 ∙ sym (append_assoc t u (drop r s)), omega (arith, h.1, g.1, length-append t u))

-- the first part of a text that stands there, and the rest after it
pub stands_parts : (t u s : List ℕ) (p r : ℕ) → Stands (t ++ u) s p r → Stands t s p (p + length t) × Stands u s (p + length t) r
stands_parts t u s p r h =
    let e : drop p s ≡ t ++ (u ++ drop r s) = h.0 ∙ append_assoc t u (drop r s) in
    let d : drop (p + length t) s ≡ u ++ drop r s = left_after t s (u ++ drop r s) p e in
    ((e ∙ ap (λ (l : List ℕ). t ++ l) (sym d), refl), (d, omega (arith, h.1, length-append t u)))
