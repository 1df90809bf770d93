-- The draws of a run, one trial at a time, and where they land. Assumes nothing.
use mathlib.Core.Path.{◌≡◌, refl, ap, ◌∙◌}
use mathlib.Core.List.{[], ◌∷◌, ◌++◌, Memᴰ}
use Prim.Native.Nat.{ℕ, zero, suc, ◌+◌, ◌<◌}
use native.Mathlib.Nat.{mod-lt, zero-add, suc-add}
use Rattle.draw.specs.Draw.{Triple, next_word, three_words, triple_after, word_after, triples}

-- one more trial, at the end
pub word_suc : (n w : ℕ) → word_after (suc n) w ≡ three_words (word_after n w)
unfolding word_after
word_suc zero w = refl
word_suc (suc n) w = word_suc n (three_words w)

pub triples_suc : (n k w : ℕ) → triples n (suc k) w ≡ triples n k w ++ (triple_after n (word_after k w) ∷ [])
unfolding triples word_after
triples_suc n zero w = refl
triples_suc n (suc k) w = ap (λ ts. triple_after n w ∷ ts) (triples_suc n k (three_words w))

-- more trials begin with the same triples
pub triples_add : (n k more w : ℕ) → triples n (k + more) w ≡ triples n k w ++ triples n more (word_after k w)
unfolding triples word_after
triples_add n zero more w = ap (λ m. triples n m w) (zero-add more)
triples_add n (suc k) more w =
    ap (λ m. triples n m w) (suc-add k more) ∙ ap (λ ts. triple_after n w ∷ ts) (triples_add n k more (three_words w))

-- the three places are places of n
pub record Within (n : ℕ) (t : Triple) : Type 0 where
  pub a_in : t.a < n
  pub b_in : t.b < n
  pub c_in : t.c < n

pub triple_in : (n w : ℕ) → 0 < n → Within n (triple_after n w)
unfolding triple_after
triple_in n w h = record { a_in = mod-lt (next_word w) h; b_in = mod-lt (next_word (next_word w)) h; c_in = mod-lt (three_words w) h }

-- every triple of a run is of places of n
pub triples_in : (n k w : ℕ) → 0 < n → {t : Triple} → Memᴰ t (triples n k w) → Within n t
unfolding triples
triples_in n zero w h {t = t} m = elim m [ ]
triples_in n (suc k) w h (Memᴰ.head e) = rw e (triple_in n w h)
triples_in n (suc k) w h (Memᴰ.tail m) = triples_in n k (three_words w) h m
