-- What an input that passes its tests is like: few stars and neighbours, and all numbers finite, so that neighbours come by squared distance, then by place. Assumes nothing.
use Rattle.std.specs.Prelude.{Ok}
use mathlib.Core.Path.{◌≡◌, refl, sym}
use mathlib.Core.Bool.{Bool, true, false, not, ◌&&◌, ◌||◌, true≢false}
use mathlib.Core.List.{List, [], ◌∷◌}
use Prim.Native.Nat.{ℕ, zero, suc, ◌≤◌, ◌<◌}
use native.Mathlib.Omega.{arith}
use borrow.Author.Tests.{ltb-false, not-false}
use lib.Dec.{T, ltb, eqb}
use lib.ListN.{length, get_or}
use lib.Ieee.{Float, nan, inf, fin, of_bits, neg, le, lt, eq}
use lib.Ieee.Scale.{finite}
use Rattle.answer.specs.declared.Refusal.TheVariants as refusal
use Rattle.answer.specs.Answers.{first}
use Rattle.answer.proofs.Passed.{passed, both}
use Rattle.domain.specs.Domain.{is_position, every}
use Rattle.quad_stars.specs.Stars.{stars_answer}
use Rattle.quad_near.specs.Near.{nearest}
use Rattle.quad_near.specs.Neighbours.{AllFinite, InOrder}
use Rattle.quad_near.specs.Kept.{FiniteStars}
use Rattle.quad_near.proofs.Nearest.{in_order}
use Rattle.quad.specs.Quads.{count_answer, least_answer, input_answer}
use Rattle.quad.proofs.Laws.{stars_like}

-- a position is finite
position_finite : (x : Float) → is_position x ≡ true → T (finite x)
unfolding of_bits neg le lt eq
position_finite nan h = absurd (true≢false (sym h))
position_finite (inf true) h = absurd (true≢false (sym h))
position_finite (inf false) h = absurd (true≢false (sym h))
position_finite (fin s m e) h = tt

and_cases : (a b : Bool) → (a && b) ≡ true → (a ≡ true) × (b ≡ true)
and_cases true b e = (refl, e)
and_cases false b e = absurd (true≢false (sym e))

-- a test of each number holds of that at a place
every_at : (p : Float → Bool) (xs : List Float) → every p xs ≡ true → (i : ℕ) → i < length xs → p (get_or xs i nan) ≡ true
unfolding every
every_at p [] h i k = absurd (omega arith)
every_at p (x ∷ xs) h zero k = (and_cases (p x) (every p xs) h).0
every_at p (x ∷ xs) h (suc i) k = every_at p xs (and_cases (p x) (every p xs) h).1 i (omega arith)

-- stars that pass their tests have finite numbers
finite_stars : (xs ys : List Float) → stars_answer xs ys ≡ Ok tt → AllFinite (length xs) xs × AllFinite (length xs) ys
unfolding stars_answer
finite_stars xs ys h =
    let a = (passed (ltb 100 (length xs) || ltb 100 (length ys)) refusal.Count _ h).1 in
    let b = passed (not (eqb (length xs) (length ys))) refusal.Lengths _ a in
    let c = (passed (not (every is_position xs && every is_position ys)) refusal.Value (Ok tt) b.1).0 in
    let e = (stars_like xs ys h).1 in
    let f = and_cases (every is_position xs) (every is_position ys) (not-false (every is_position xs && every is_position ys) c) in (
      λ i k. position_finite (get_or xs i nan) (every_at is_position xs f.0 i k),
      λ i k. position_finite (get_or ys i nan) (every_at is_position ys f.1 i (omega arith)),
    )

-- and so has an input that passes its own
pub within : (xs ys : List Float) (k : ℕ) (least : Float) → input_answer xs ys k least ≡ Ok tt → (k ≤ 10) × (length xs ≤ 100) × FiniteStars xs ys
unfolding input_answer
within xs ys k least h =
    let a = both (count_answer k) (first (stars_answer xs ys) (least_answer least)) h in
    let d = (both (stars_answer xs ys) (least_answer least) a.1).0 in
    let s = stars_like xs ys d in
    let f = finite_stars xs ys d in
    (ltb-false 10 k (passed (ltb 10 k) refusal.Count (Ok tt) a.0).0, s.0, record { alike = s.1; x = f.0; y = f.1 })

-- their neighbours come by squared distance and then by place, and before every star that is left out
pub neighbours_in_order : (xs ys : List Float) (seed k : ℕ) → stars_answer xs ys ≡ Ok tt → seed < length xs → InOrder xs ys seed (nearest xs ys seed k)
neighbours_in_order xs ys seed k h s = let f = finite_stars xs ys h in in_order xs ys seed f.0 f.1 s k
