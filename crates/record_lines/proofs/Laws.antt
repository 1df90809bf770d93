-- Laws of the lines: their texts one after the other, and the terms that are left. Assumes nothing.
use mathlib.Core.Path.{◌≡◌, refl, sym}
use mathlib.Core.Bool.{Bool, true, false, cond}
use mathlib.Core.List.{List, [], ◌∷◌, ◌++◌, append_assoc, map, map-append}
use Prim.Native.Nat.{ℕ, suc, ◌+◌, ◌≤◌, ◌<◌}
use native.Mathlib.Numerals.{add-one}
use lib.ListN.{length, get_or, set, take, drop, drop_of_length-le}
use lib.Seq.{drop-cons, take-suc, take-suc-set}
use lib.Ieee.{Float}
use Rattle.text.specs.Lines.{decimal_line}
use Rattle.sip_terms.specs.declared.Term.{Term}
use Rattle.sip_terms.specs.Terms.{next_term, is_kept}
use Rattle.record_lines.specs.declared.Head.{Head}
use Rattle.record_lines.specs.Names.{order_name, term_name}
use Rattle.record_lines.specs.Lines.{number_line, with_line, text_of}
use Rattle.record_lines.specs.Parts.{start_lines, cd_lines, head_lines, kept_line, term_lines}

-- the text of two lists of lines
pub text_append : (xs ys : List (List ℕ)) → text_of (xs ++ ys) ≡ text_of xs ++ text_of ys
unfolding text_of
text_append [] ys = refl
text_append (x ∷ xs) ys = rw (text_append xs ys) (sym (append_assoc x (text_of xs) (text_of ys)))

-- the text of the lines before the terms
pub head_text : (h : Head) → text_of (head_lines h) ≡ text_of (start_lines h) ++ (text_of (cd_lines h.wcs) ++ text_of (decimal_line order_name h.order ∷ []))
unfolding head_lines
head_text h = rw (text_append (start_lines h) (cd_lines h.wcs ++ (decimal_line order_name h.order ∷ [])), text_append (cd_lines h.wcs) (decimal_line order_name h.order ∷ []))

-- a line that may be left out
with_text : (b : Bool) (line : List ℕ) (lines : List (List ℕ)) → text_of (with_line b line lines) ≡ cond b line [] ++ text_of lines
unfolding text_of
with_text true line lines = refl
with_text false line lines = refl

-- a kept coefficient has its line
pub line_kept : (name : List ℕ) (letter : ℕ) (t : Term) (c : Float) → name ≡ term_name letter t → is_kept c ≡ true → number_line name c ≡ kept_line letter t c
unfolding kept_line
line_kept name letter t c en e = rw (en, e)

-- a dropped one has none
pub line_dropped : (letter : ℕ) (t : Term) (c : Float) → is_kept c ≡ false → [] ≡ kept_line letter t c
unfolding kept_line
line_dropped letter t c e = rw e

-- a coefficient is left
pub terms_more : (letter : ℕ) (t : Term) (cs : List Float) (i : ℕ) (d : Float) → i < length cs
    → text_of (term_lines letter t (drop i cs)) ≡ kept_line letter t (get_or cs i d) ++ text_of (term_lines letter (next_term t) (drop (i + 1) cs))
unfolding term_lines kept_line
terms_more letter t cs i d h =
    rw (drop-cons cs i d h, add-one i)
    (with_text (is_kept (get_or cs i d)) (number_line (term_name letter t) (get_or cs i d)) (term_lines letter (next_term t) (drop (suc i) cs)))

-- none is left
pub terms_none : (letter : ℕ) (t : Term) (cs : List Float) (i : ℕ) → length cs ≤ i → text_of (term_lines letter t (drop i cs)) ≡ []
unfolding term_lines text_of
terms_none letter t cs i h = rw (drop_of_length-le cs {i = i} h)

-- one number more is held
pub held_more : (f : Float → Float) (xs cs : List Float) (i : ℕ) (d x : Float) → i < length xs → i < length cs → x ≡ f (get_or cs i d)
    → take i xs ≡ map f (take i cs) → take (i + 1) (set xs i x) ≡ map f (take (i + 1) cs)
held_more f xs cs i d x h g ex e =
    rw (add-one i, take-suc-set xs i x h, take-suc cs i d g, e, ex) (sym (map-append f (take i cs) (get_or cs i d ∷ [])))
