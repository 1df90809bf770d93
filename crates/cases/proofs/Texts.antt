-- A text that was put at the front of a buffer, as it is then written to a stream. Assumes nothing.
use Rattle.std.proofs.Common.{◌≡◌, ◌≤◌, ℕ, List, ◌++◌, length, take, drop, arith, ap, ◌∙◌, append-nil, drop_of_length-le}
use Rattle.std.proofs.Math.Seq.{take-append_seam}
use Rattle.put.specs.Put.{Put, Room}
use Rattle.put.proofs.Writing.{put_front, put_length}

-- it ends within the buffer
pub text_within : {us l₀ l₁ : List ℕ} {p : ℕ} → Put l₀ 0 us p l₁ → Room l₀ 0 us → p ≤ length l₁
text_within {us} {l₀} {l₁} {p} a r = omega (arith, r.room, a.next_is, put_length a)

-- what stands before its end is the text
pub text_front : {us l₀ l₁ : List ℕ} {p : ℕ} → Put l₀ 0 us p l₁ → Room l₀ 0 us → take p l₁ ≡ us
text_front {us} {l₀} {l₁} {p} a r =
    let e : p ≡ length us = omega (arith, a.next_is) in
    ap (λ k. take k l₁) e ∙ ap (take (length us)) (put_front r a) ∙ take-append_seam us (drop (length us) l₀)

-- a text as long as the buffer is all of it
pub text_whole : {us l₀ l₁ : List ℕ} {p : ℕ} → Put l₀ 0 us p l₁ → length us ≡ length l₀ → l₁ ≡ us
text_whole {us} {l₀} {l₁} {p} a e =
    let r : Room l₀ 0 us = record { room = omega arith } in
    put_front r a ∙ ap (λ l. us ++ l) (drop_of_length-le l₀ {i = length us} (omega arith)) ∙ append-nil us
