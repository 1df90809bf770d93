-- The lines of the table are the parts that are put one after the other. Assumes nothing.
use mathlib.Core.Path.{◌≡◌, refl, ◌∙◌, ap}
use mathlib.Core.Bool.{Bool, true, false}
use mathlib.Core.List.{List, [], ◌∷◌, ◌++◌, map}
use Prim.Native.Nat.{ℕ}
use lib.ListN.{length}
use lib.Ieee.{Float}
use Rattle.sip_terms.specs.declared.Term.{Term}
use Rattle.sip_terms.specs.Terms.{first_term, next_term, term_count, is_kept}
use Rattle.record_lines.specs.declared.Head.{Head}
use Rattle.record_lines.specs.Names.{a_letter, b_letter, term_name}
use Rattle.record_lines.specs.Lines.{Solution, number_line, with_line}
use Rattle.record_lines.specs.Parts.{start_lines, cd_lines, head_lines, term_lines, error_lines}
use Rattle.record_lines.specs.Table.{Slot, Value, term_slots, error_slots, lines_of, lines_as}

-- a line before others, and those before more
pub with_append : (b : Bool) (line : List ℕ) (xs ys : List (List ℕ)) → with_line b line (xs ++ ys) ≡ with_line b line xs ++ ys
with_append true line xs ys = refl
with_append false line xs ys = refl

-- the lines of the terms, and those after them
terms_lines : (letter : ℕ) (t : Term) (cs : List Float) (ks : List Slot) (vs : List Value)
    → lines_of (term_slots letter t (length cs) ++ ks) (map Value.Real cs ++ vs) ≡ term_lines letter t cs ++ lines_of ks vs
unfolding term_slots lines_of term_lines
terms_lines letter t [] ks vs = refl
terms_lines letter t (c ∷ cs) ks vs = rw (terms_lines letter (next_term t) cs ks vs) (with_append (is_kept c) (number_line (term_name letter t) c) (term_lines letter (next_term t) cs) (lines_of ks vs))

-- the same for a number of terms that is known otherwise
terms_lines_of : (letter : ℕ) (t : Term) (n : ℕ) (cs : List Float) (ks : List Slot) (vs : List Value) → length cs ≡ n
    → lines_of (term_slots letter t n ++ ks) (map Value.Real cs ++ vs) ≡ term_lines letter t cs ++ lines_of ks vs
terms_lines_of letter t n cs ks vs e = rw (← e) (terms_lines letter t cs ks vs)

-- the numbers of the lines before the terms
abbrev pub head_in : ℕ → Solution → Head
head_in number s = record { format = number; rows = s.fit.rows_used; wcs = s.wcs; order = s.order }

-- a record with a coefficient for each term, in four parts
pub record_parts : (number : ℕ) (s : Solution) → length s.a ≡ term_count s.order → length s.b ≡ term_count s.order
    → lines_as number s ≡ head_lines (head_in number s) ++ (term_lines a_letter first_term s.a ++ (term_lines b_letter first_term s.b ++ error_lines s.fit))
unfolding lines_as lines_of head_lines start_lines cd_lines error_lines
record_parts number s ea eb =
    let n = term_count s.order in
    let E = Value.Real s.fit.linear_rms ∷ Value.Real s.fit.rms ∷ Value.Real s.fit.wrms ∷ [] in
    ap (λ (l : List (List ℕ)). head_lines (head_in number s) ++ l)
    (terms_lines_of a_letter first_term n s.a (term_slots b_letter first_term n ++ error_slots) (map Value.Real s.b ++ E) ea
    ∙ ap (λ (l : List (List ℕ)). term_lines a_letter first_term s.a ++ l) (terms_lines_of b_letter first_term n s.b error_slots E eb))
