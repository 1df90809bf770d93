-- The keys that are written are the 81 neighbour keys, by their number. Assumes nothing.
use Rattle.std.specs.Prelude.{Ok}
use Rattle.std.proofs.Common.{◌≡◌, ℕ, ◌≤◌, List, ◌++◌, length, refl, ◌∙◌, le-ltb}
use lib.Seq.{sets, sets-eq}
use Rattle.answer.specs.Answers.{lent_after}
use Rattle.quad_key.specs.declared.Hash.{Hash}
use Rattle.quad_key.specs.declared.Lanes.{Lanes}
use Rattle.quad_key.specs.Key.{lane_of, neighbour_key, neighbour_keys, keys_answer}
use Rattle.quad_key.specs.Steps.{lanes_of, keys27}
use Rattle.quad_key.proofs.Stores.{thrice}

-- the keys of one lane 0
abbrev third : Hash → ℕ → List ℕ
third h d = keys27 (lane_of h.h0 d) (lanes_of h.h1) (lanes_of h.h2) (lanes_of h.h3)

thirds : (h : Hash) → third h 0 ++ third h 1 ++ third h 2 ≡ neighbour_keys h
unfolding neighbour_keys neighbour_key
thirds h = refl

in_front : (h : Hash) (old : List ℕ) → 81 ≤ length old → sets old 0 (third h 0 ++ third h 1 ++ third h 2) ≡ lent_after (keys_answer (length old)) (neighbour_keys h) old
in_front h old fit = rw (le-ltb (length old) 81 fit, ← thirds h) (sets-eq (third h 0 ++ third h 1 ++ third h 2) old 0 fit)

-- three runs of stores of the keys of the lanes a, b, c and d
pub done : (h : Hash) (old : List ℕ) {l₁ l₂ l₃ : List ℕ} (a b c d : Lanes) → a ≡ lanes_of h.h0 → b ≡ lanes_of h.h1 → c ≡ lanes_of h.h2 → d ≡ lanes_of h.h3
    → 81 ≤ length old → l₁ ≡ sets old 0 (keys27 a.less b c d) → l₂ ≡ sets l₁ 27 (keys27 a.own b c d) → l₃ ≡ sets l₂ 54 (keys27 a.more b c d)
    → ((Ok tt) ≡ keys_answer (length old)) × (l₃ ≡ lent_after (keys_answer (length old)) (neighbour_keys h) old)
done h old a b c d p q r s fit e₁ e₂ e₃ =
    let e = thrice old 0 27 (keys27 a.less b c d) (keys27 a.own b c d) (keys27 a.more b c d) refl refl e₁ e₂ e₃ in (
      rw (le-ltb (length old) 81 fit),
      e ∙ rw (p, q, r, s) (in_front h old fit),
    )
