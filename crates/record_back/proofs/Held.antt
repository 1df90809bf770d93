-- A solution, and what the lines of a format hold of it. Assumes nothing.
use mathlib.Core.Path.{◌≡◌, refl, sym, ap, ◌∙◌}
use mathlib.Core.Bool.{Bool, true, false, cond}
use mathlib.Core.List.{List, [], ◌∷◌, ◌++◌, map}
use Prim.Native.Nat.{ℕ}
use lib.ListN.{length, get_or, drop, length-map}
use lib.Ieee.{Float, of_bits, lt}
use Rattle.floats.specs.Magnitude.{magnitude_of}
use Rattle.cd_plate.specs.Plate.{nothing}
use Rattle.sip_terms.specs.declared.Term.{Term}
use Rattle.sip_terms.specs.Terms.{first_term, next_term, term_count, is_kept, kept_of}
use Rattle.record_format.specs.declared.Format.{Format}
use Rattle.record_format.specs.Formats.{format_of, held_by, solved_by}
use Rattle.record_format.proofs.Laws.{solved_held, held_solved, solved_kept, held_f64, solved_f64}
use Rattle.record_lines.specs.Names.{a_letter, b_letter, term_name}
use Rattle.record_lines.specs.Lines.{Solution, number_line, with_line}
use Rattle.record_lines.specs.Parts.{head_lines, term_lines, error_lines}
use Rattle.record_lines.specs.Table.{lines_as, held_as}
use Rattle.record_lines.proofs.Table.{head_in, record_parts}
use Rattle.record.specs.Record.{Passed}
use Rattle.record.proofs.Laws.{held_length}
use Rattle.record_reader.specs.Reading.{solved_as}
use Rattle.record_back.specs.Shown.{AreF64, SolutionF64}

-- ---- the coefficients

-- what is read of them is what was solved
pub solved_list : (f : Format) (cs : List Float) → map (solved_by f) (map kept_of (map (held_by f) cs)) ≡ map kept_of cs
solved_list f [] = refl
solved_list f (c ∷ cs) = λ i. solved_held f c i ∷ solved_list f cs i

-- and the other way round
held_list : (f : Format) (xs : List Float) → map kept_of (map (held_by f) (map (solved_by f) xs)) ≡ map kept_of xs
held_list f [] = refl
held_list f (x ∷ xs) = λ i. held_solved f x i ∷ held_list f xs i

-- of those that are read none is dropped but 0.0
pub solved_settled : (f : Format) (xs : List Float) → map kept_of xs ≡ xs → map kept_of (map (solved_by f) xs) ≡ map (solved_by f) xs
solved_settled f [] e = refl
solved_settled f (x ∷ xs) e =
    let h : kept_of x ≡ x = ap (λ (l : List Float). get_or l 0 x) e in
    let t : map kept_of xs ≡ xs = ap (drop 1) e in
    λ i. solved_kept f x h i ∷ solved_settled f xs t i

-- ---- the floats

held_floats : (f : Format) (cs : List Float) → AreF64 cs → AreF64 (map (held_by f) cs)
held_floats f [] h = tt
held_floats f (c ∷ cs) h = (held_f64 f c h.0, held_floats f cs h.1)

pub held_solution : (f : Format) (s : Solution) → SolutionF64 s → SolutionF64 (held_as f s)
held_solution f s F = record { of_fit = F.of_fit; of_wcs = F.of_wcs; of_a = held_floats f s.a F.of_a; of_b = held_floats f s.b F.of_b }

pub solved_floats : (f : Format) (xs : List Float) → AreF64 xs → AreF64 (map (solved_by f) xs)
solved_floats f [] h = tt
solved_floats f (x ∷ xs) h = (solved_f64 f x h.0, solved_floats f xs h.1)

-- ---- the tests

-- the writer accepts what the lines hold where it accepts what was solved
pub held_passed : (f : Format) (s : Solution) → Passed s → Passed (held_as f s)
held_passed f s p = rw (length-map s.a (held_by f), length-map s.b (held_by f)) p

-- ---- the lines

-- a dropped coefficient has no line, whatever it is
kept_line : (line : Float → List ℕ) (x : Float) (ls : List (List ℕ)) → with_line (is_kept (kept_of x)) (line (kept_of x)) ls ≡ with_line (is_kept x) (line x) ls
unfolding kept_of of_bits magnitude_of lt
kept_line line x ls = go (is_kept x) refl
  where
    go : (b : Bool) → is_kept x ≡ b → with_line (is_kept (cond b x nothing)) (line (cond b x nothing)) ls ≡ with_line b (line x) ls
    go true e = rw e
    go false e = refl

kept_lines : (letter : ℕ) (t : Term) (cs : List Float) → term_lines letter t (map kept_of cs) ≡ term_lines letter t cs
unfolding term_lines
kept_lines letter t [] = refl
kept_lines letter t (c ∷ cs) = rw (kept_lines letter (next_term t) cs) (kept_line (number_line (term_name letter t)) c (term_lines letter (next_term t) cs))

-- lines of what is held of what is solved of numbers are those of the numbers
again_lines : (f : Format) (letter : ℕ) (xs : List Float) → term_lines letter first_term (map (held_by f) (map (solved_by f) xs)) ≡ term_lines letter first_term xs
again_lines f letter xs =
    sym (kept_lines letter first_term (map (held_by f) (map (solved_by f) xs))) ∙ ap (term_lines letter first_term) (held_list f xs) ∙ kept_lines letter first_term xs

-- THE LAW: the record of what a format's lines show is those lines
pub lines_again : (number : ℕ) (s : Solution) → length s.a ≡ term_count s.order → length s.b ≡ term_count s.order
    → lines_as number (held_as (format_of number) (solved_as (format_of number) s)) ≡ lines_as number s
lines_again number s la lb =
    let f = format_of number in
    let a = held_length f (map (solved_by f) s.a) (term_count s.order) (length-map s.a (solved_by f) ∙ la) in
    let b = held_length f (map (solved_by f) s.b) (term_count s.order) (length-map s.b (solved_by f) ∙ lb) in
    record_parts number (held_as f (solved_as f s)) a b
    ∙ (λ i. head_lines (head_in number s) ++ (again_lines f a_letter s.a i ++ (again_lines f b_letter s.b i ++ error_lines s.fit)))
    ∙ sym (record_parts number s la lb)
