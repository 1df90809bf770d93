-- The numbers by which the tests of the input refuse it. Assumes nothing.
use Rattle.answer.specs.declared.Refusal.{Refusal}
use Rattle.std.specs.Prelude.{Result, Ok, Err}
use mathlib.Core.Path.{◌≡◌, refl}
use mathlib.Core.Logic.{◌⊎◌, inl, inr}
use mathlib.Core.Bool.{Bool, true, false, cond, not, ◌||◌, ◌&&◌}
use mathlib.Core.List.{List}
use Prim.Native.Nat.{ℕ}
use borrow.Author.Tests.{eq-eqb}
use lib.Dec.{ltb}
use lib.ListN.{length}
use lib.Ieee.{Float}
use Rattle.answer.specs.Answers.{answer_number, first}
use Rattle.answer.specs.declared.Refusal.TheVariants as refusal
use Rattle.domain.specs.Domain.{is_limit, is_position, every}
use Rattle.quad_stars.specs.Stars.{stars_answer}
use Rattle.quad.specs.Quads.{count_answer, least_answer, input_answer}

-- done, or a refusal by number 1 or 3
abbrev pub Tested : ℕ → Type 0
Tested n = (n ≡ 0) ⊎ ((n ≡ 1) ⊎ (n ≡ 3))

abbrev done : Result Unit Refusal
done = Ok tt

first_input : (a b : Result Unit Refusal) → Tested (answer_number a) → Tested (answer_number b) → Tested (answer_number (first a b))
first_input (Ok tt) b h k = k
first_input (Err why) b h k = h

count_input : (b : Bool) → Tested (answer_number (cond b (Err refusal.Count) done))
count_input true = inr (inl refl)
count_input false = inl refl

least_input : (b : Bool) → Tested (answer_number (cond b done (Err refusal.Value)))
least_input true = inl refl
least_input false = inr (inr refl)

stars_input : (xs ys : List Float) → length xs ≡ length ys → Tested (answer_number (stars_answer xs ys))
unfolding stars_answer
stars_input xs ys e = rw (eq-eqb (length xs) (length ys) e) (go (ltb 100 (length xs) || ltb 100 (length ys)) (every is_position xs && every is_position ys))
  where
    go : (p q : Bool) → Tested (answer_number (cond p (Err refusal.Count) (cond (not q) (Err refusal.Value) done)))
    go true q = inr (inl refl)
    go false true = inl refl
    go false false = inr (inr refl)

-- the tests of an input whose lists are as long refuse it by number 1 or 3 alone
pub input_number : (xs ys : List Float) (k : ℕ) (least : Float) → length xs ≡ length ys → Tested (answer_number (input_answer xs ys k least))
unfolding input_answer
input_number xs ys k least e =
    first_input (count_answer k) (first (stars_answer xs ys) (least_answer least)) (count_input (ltb 10 k))
    (first_input (stars_answer xs ys) (least_answer least) (stars_input xs ys e) (least_input (is_limit least)))
