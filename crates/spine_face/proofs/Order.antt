-- The numbers of `normalize_quad_ordered` come in the order of the table: 1 to 4, then 7, then 8. Assumes nothing.
use Rattle.quad_normal.specs.declared.Quad.{Quad}
use Rattle.answer.specs.declared.Refusal.{Refusal}
use Rattle.std.specs.Prelude.{Result, Ok, Err, Option, Some, None}
use mathlib.Core.Path.{◌≡◌, refl}
use mathlib.Core.Bool.{Bool, true, false, cond, not, ◌||◌, ◌&&◌}
use mathlib.Core.List.{List}
use Prim.Native.Nat.{ℕ}
use lib.Dec.{ltb, eqb}
use lib.ListN.{length}
use lib.Ieee.{Float}
use Rattle.answer.specs.Answers.{number_of, first}
use Rattle.domain.specs.Domain.{is_position, every}
use Rattle.answer.specs.declared.Refusal.TheVariants as refusal
use Rattle.quad_stars.specs.Stars.{stars_answer, places_answer, four_answer, four_at}
use Rattle.quad_normal.specs.Normal.{normal_of, normal_after, normal_answer}
use Rattle.spine_face.specs.Face.{quad_room, normal_done, normal_face}

-- done, or refused by a number below 7
early : Result Unit Refusal → Bool
early (Ok tt) = true
early (Err why) = ltb (number_of why) 7

-- the tests of the lists, and the test of the places, have such numbers alone
three_early : (p q r : Bool)
    → early (cond p (Err refusal.Count) (cond q (Err refusal.Lengths) (cond r (Err refusal.Value) (Ok tt)))) ≡ true
unfolding early
three_early true q r = refl
three_early false true r = refl
three_early false false true = refl
three_early false false false = refl

stars_early : (xs ys : List Float) → early (stars_answer xs ys) ≡ true
unfolding stars_answer
stars_early xs ys =
    three_early (ltb 100 (length xs) || ltb 100 (length ys)) (not (eqb (length xs) (length ys))) (not (every is_position xs && every is_position ys))

one_early : (b : Bool) → early (cond b (Ok tt) (Err refusal.Place)) ≡ true
unfolding early
one_early true = refl
one_early false = refl

both_early : (a b : Result Unit Refusal) → early a ≡ true → early b ≡ true → early (first a b) ≡ true
unfolding early
both_early (Ok tt) b h k = k
both_early (Err why) b h k = h

four_early : (xs ys : List Float) (a b c d : ℕ) → early (four_answer xs ys a b c d) ≡ true
unfolding four_answer places_answer
four_early xs ys a b c d = both_early (stars_answer xs ys) _ (stars_early xs ys) (one_early (ltb a (length xs) && (ltb b (length xs) && (ltb c (length xs) && ltb d (length xs)))))

-- number 8, or done
abbrev pub scaled_done : Option Quad → Result Unit Refusal
scaled_done (Some q) = Ok tt
scaled_done None = Err refusal.Degenerate

-- nothing follows what is done
done_last : (room : Result Unit Refusal) → room ≡ first room (Ok tt)
done_last (Ok tt) = refl
done_last (Err why) = refl

turns : (a : Result Unit Refusal) (s : Option Quad) (room : Result Unit Refusal) → early a ≡ true → normal_done (normal_after a s) room ≡ first a (first room (scaled_done s))
unfolding early
turns (Ok tt) (Some q) room h = done_last room
turns (Ok tt) None room h = refl
turns (Err why) s room h = rw h

-- the tests of the input, then the room of both lists, then the spine that is too short
pub in_order : (xs ys : List Float) (a b c d room-h room-p : ℕ)
    → normal_face xs ys a b c d room-h room-p ≡ first (four_answer xs ys a b c d) (first (quad_room room-h room-p) (scaled_done (normal_of (four_at xs ys a b c d))))
unfolding normal_answer
in_order xs ys a b c d room-h room-p = turns (four_answer xs ys a b c d) (normal_of (four_at xs ys a b c d)) (quad_room room-h room-p) (four_early xs ys a b c d)
