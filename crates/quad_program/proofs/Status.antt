-- The status of a text is 0, 1, 3 or 10: never 2, since a text has as many x as y, and never 7, since there is room for all quads of its stars. Assumes nothing.
use Rattle.answer.specs.declared.Refusal.{Refusal}
use Rattle.std.specs.Prelude.{Result, Ok, Err}
use mathlib.Core.Path.{◌≡◌, refl, ap}
use mathlib.Core.Logic.{◌⊎◌, inl, inr}
use mathlib.Core.Bool.{Bool, true, false, cond}
use mathlib.Core.List.{List}
use Prim.Native.Nat.{ℕ, zero, suc, ◌/◌}
use lib.Dec.{ltb}
use lib.ListN.{length}
use lib.Ieee.{Float, binary64, of_bits}
use Rattle.answer.specs.Answers.{answer_number}
use Rattle.std.proofs.Common.{Option, Some, None, Ok, Err}
use Rattle.scan_digits.specs.Read.{Number}
use Rattle.quad.specs.Quads.{input_answer, answer_after, quad_places}
use Rattle.quad.proofs.Numbers.{Tested, input_number}
use Rattle.quad_program.specs.declared.Star.{Star}
use Rattle.scan_fields.specs.Fields.{hex_field, decimal_field}
use Rattle.quad_program.specs.Form.{Sky, Form, star_of, stars_from, one_more_of, star_then, with_stars, after_least, after_k, k_name, least_name, newline, parsed}
use Rattle.quad_program.specs.Program.{quads_of, answer_to, status_of}

-- ---- as many x as y

abbrev EvenSky : Sky → Type 0
EvenSky (Sky.Shows xs ys) = length xs ≡ length ys
EvenSky Sky.Wrong = Unit {0}

abbrev EvenForm : Form → Type 0
EvenForm (Form.Says k least xs ys) = length xs ≡ length ys
EvenForm Form.Wrong = Unit {0}

one_more : (x y : Float) (s : Sky) → EvenSky s → EvenSky (one_more_of x y s)
one_more x y (Sky.Shows xs ys) h = ap suc h
one_more x y Sky.Wrong h = tt

star_then_lem : (a : Option Star) (others : ℕ → Sky) → ((p : ℕ) → EvenSky (others p)) → EvenSky (star_then a others)
star_then_lem (Some a) others h = one_more a.x a.y (others a.next) (h a.next)
star_then_lem None others h = tt

picked : (b : Bool) (s t : Sky) → EvenSky s → EvenSky t → EvenSky (cond b s t)
picked true s t h k = h
picked false s t h k = k

even_stars : (room : ℕ) (s : List ℕ) (p : ℕ) → EvenSky (stars_from room s p)
unfolding stars_from
even_stars zero s p = picked (ltb p (length s)) _ _ tt refl
even_stars (suc room) s p = picked (ltb p (length s)) _ _ (star_then_lem (star_of s p) (stars_from room s) (even_stars room s)) refl

with_stars_lem : (k : ℕ) (least : Float) (s : Sky) → EvenSky s → EvenForm (with_stars k least s)
with_stars_lem k least (Sky.Shows xs ys) h = h
with_stars_lem k least Sky.Wrong h = tt

after_least_lem : (s : List ℕ) (k : ℕ) (n : Number) → EvenForm (after_least s k n)
after_least_lem s k (Ok (bits, p)) = with_stars_lem k (of_bits binary64 bits) (stars_from 14 s p) (even_stars 14 s p)
after_least_lem s k (Err w) = tt

after_k_lem : (s : List ℕ) (n : Number) → EvenForm (after_k s n)
after_k_lem s (Ok (k, p)) = after_least_lem s k (hex_field least_name newline s p)
after_k_lem s (Err w) = tt

-- a text that is in form says as many x as y
pub even : (s : List ℕ) → EvenForm (parsed s)
unfolding parsed
even s = go (ltb 1024 (length s)) (after_k s (decimal_field k_name newline s 0)) (after_k_lem s (decimal_field k_name newline s 0))
  where
    go : (b : Bool) (f : Form) → EvenForm f → EvenForm (cond b Form.Wrong f)
    go true f h = tt
    go false f h = h

-- ---- the numbers of the answers

after_number : (a : Result Unit Refusal) (n : ℕ) → Tested (answer_number a) → Tested (answer_number (answer_after a (Ok n)))
after_number (Ok tt) n h = inl refl
after_number (Err why) n h = h

stars_number : (xs ys : List Float) (k : ℕ) (least : Float) → length xs ≡ length ys → Tested (answer_number (quads_of xs ys k least))
unfolding quads_of
stars_number xs ys k least e = after_number (input_answer xs ys k least) (length (quad_places xs ys k least) / 4) (input_number xs ys k least e)

-- the status of every text is 0, 1, 3 or 10
pub status : (s : List ℕ) → (status_of s ≡ 0) ⊎ ((status_of s ≡ 1) ⊎ ((status_of s ≡ 3) ⊎ (status_of s ≡ 10)))
unfolding status_of
status s = go (parsed s) (even s)
  where
    wider : (n : ℕ) → Tested n → (n ≡ 0) ⊎ ((n ≡ 1) ⊎ ((n ≡ 3) ⊎ (n ≡ 10)))
    wider n (inl h) = inl h
    wider n (inr (inl h)) = inr (inl h)
    wider n (inr (inr h)) = inr (inr (inl h))

    go : (f : Form) → EvenForm f → (answer_number (answer_to f) ≡ 0) ⊎ ((answer_number (answer_to f) ≡ 1) ⊎ ((answer_number (answer_to f) ≡ 3) ⊎ (answer_number (answer_to f) ≡ 10)))
    go (Form.Says k least xs ys) e = wider (answer_number (quads_of xs ys k least)) (stars_number xs ys k least e)
    go Form.Wrong e = inr (inr (inr refl))
