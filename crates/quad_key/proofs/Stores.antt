-- Runs of stores, one after another. Assumes nothing.
use Rattle.std.proofs.Common.{◌≡◌, ℕ, suc, ◌+◌, List, [], ◌∷◌, ◌++◌, length, set, sym, ap, ◌∙◌, arith, length-append}
use lib.Seq.{sets}

pub sets_append : {A : Type 0} (l : List A) (i : ℕ) (vs ws : List A) → sets (sets l i vs) (i + length vs) ws ≡ sets l i (vs ++ ws)
sets_append l i [] ws = ap (λ (k : ℕ). sets l k ws) (omega arith)
sets_append l i (a ∷ vs) ws = ap (λ (k : ℕ). sets (sets l i (a ∷ vs)) k ws) (next i (length vs)) ∙ sets_append (set l i a) (suc i) vs ws
  where
    next : (i n : ℕ) → i + suc n ≡ suc i + n
    next i n = omega arith

-- three runs of n stores, the second and third each from where the one before it ended
pub thrice : {A : Type 0} (l : List A) {l₁ l₂ l₃ : List A} (i n : ℕ) (us vs ws : List A) → length us ≡ n → length vs ≡ n
    → l₁ ≡ sets l i us → l₂ ≡ sets l₁ (i + n) vs → l₃ ≡ sets l₂ (i + (n + n)) ws → l₃ ≡ sets l i (us ++ vs ++ ws)
thrice {A} l i n us vs ws p q e₁ e₂ e₃ =
    e₃
    ∙ ap (λ (k : List A). sets k (i + (n + n)) ws) (e₂ ∙ ap (λ (k : List A). sets k (i + n) vs) e₁ ∙ two)
    ∙ ap (λ (k : ℕ). sets (sets l i (us ++ vs)) (i + k) ws) (sym (length-append us vs ∙ both (length us) (length vs) p q))
    ∙ sets_append l i (us ++ vs) ws
  where
    two : sets (sets l i us) (i + n) vs ≡ sets l i (us ++ vs)
    two = ap (λ (k : ℕ). sets (sets l i us) (i + k) vs) (sym p) ∙ sets_append l i us vs

    both : (a b : ℕ) → a ≡ n → b ≡ n → a + b ≡ n + n
    both a b p q = omega arith
