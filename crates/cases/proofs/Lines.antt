-- A line that is read from a stream byte by byte, as far as there is room. Assumes nothing.
use Rattle.std.proofs.Common.{◌≡◌, ◌≢◌, ◌≤◌, ◌<◌, ◌-◌, ◌+◌, ℕ, suc, List, [], ◌∷◌, ◌++◌, All, None, Some, IfSome, length, take, sym, ap, ◌∙◌, arith, append-nil, take_all, add-one, get_or-set_same}
use Rattle.std.proofs.Math.ListN.{set, length-set}
use Rattle.std.proofs.Math.Seq.{take-append_seam, take-append-add, take-suc-set}
use Rattle.std.proofs.lemmas.List.{take-set}
use Rattle.std.proofs.lemmas.List.Elements.{All-more}
use Rattle.std.specs.declared.option.Option.{Option}
use Rattle.std.specs.Io.KnownBytes.{Consumes, IsAtEnd}
use Rattle.std.specs.Io.BufRead.{take_through}
use Rattle.std.proofs.BufReadLemmas.{take_through-append}

-- the list once one more byte is in it
pub more_bytes : (xs : List ℕ) (n b : ℕ) → n < length xs → take (n + 1) (set xs n b) ≡ take n xs ++ b ∷ []
more_bytes xs n b h = ap (λ k. take k (set xs n b)) (add-one n) ∙ take-suc-set xs n b h

-- no newline, once one more byte is in it that is none
pub none_more : (xs : List ℕ) (n b : ℕ) → n < length xs → All (λ x. x ≢ 10) (take n xs) → b ≢ 10 → All (λ x. x ≢ 10) (take (n + 1) (set xs n b))
none_more xs n b h none ne =
    All-more (λ x. x ≢ 10) (set xs n b) n 0 (simp length-set h) (rw take-set none) (rw get_or-set_same ne)

-- a text without a newline is its own line
whole : (part : List ℕ) → All (λ x. x ≢ 10) part → part ≡ take_through 10 part
whole part none = sym (ap (take_through 10) (sym (append-nil part)) ∙ take_through-append 10 part [] none ∙ append-nil part)

-- there is room for no more
pub line_full : (a b : Option (List ℕ)) (part : List ℕ) (room : ℕ) → Consumes a b part → All (λ x. x ≢ 10) part → length part ≡ room
    → IfSome a (λ xs. part ≡ take_through 10 (take room xs))
line_full None b part room moved none full = tt
line_full (Some x) None part room moved none full = absurd moved
line_full (Some x) (Some y) part room moved none full =
    whole part none ∙ ap (take_through 10) (sym (ap (take room) moved ∙ ap (λ n. take n (part ++ y)) (sym full) ∙ take-append_seam part y))

-- the stream has no more
pub line_last : (a b : Option (List ℕ)) (part : List ℕ) (room : ℕ) → Consumes a b part → All (λ x. x ≢ 10) part → length part ≤ room → IsAtEnd b
    → IfSome a (λ xs. part ≡ take_through 10 (take room xs))
line_last None b part room moved none fits end = tt
line_last (Some x) None part room moved none fits end = absurd moved
line_last (Some x) (Some y) part room moved none fits end =
    let all = moved ∙ ap (λ l. part ++ l) end ∙ append-nil part in
    whole part none ∙ ap (take_through 10) (sym (ap (take room) all ∙ take_all room part fits))

-- the newline is there
pub line_ended : (a b c : Option (List ℕ)) (part line : List ℕ) (last room : ℕ) → Consumes a b part → All (λ x. x ≢ 10) part → length part < room
    → Consumes b c (last ∷ []) → last ≡ 10 → line ≡ part ++ last ∷ [] → IfSome a (λ xs. line ≡ take_through 10 (take room xs))
line_ended None b c part line last room moved none fits got is made = tt
line_ended (Some x) None c part line last room moved none fits got is made = absurd moved
line_ended (Some x) (Some y) None part line last room moved none fits got is made = absurd got
line_ended (Some x) (Some y) (Some z) part line last room moved none fits got is made =
    let left = room - length part - 1 in
    let long : room ≡ length part + suc left = omega arith in
    let all = moved ∙ ap (λ l. part ++ l) (got ∙ ap (λ k. k ∷ z) is) in
    let shown = ap (take room) all ∙ ap (λ n. take n (part ++ 10 ∷ z)) long ∙ take-append-add part (10 ∷ z) (suc left) in
    made ∙ ap (λ k. part ++ k ∷ []) is
    ∙ sym (ap (take_through 10) shown ∙ take_through-append 10 part (10 ∷ take left z) none)
