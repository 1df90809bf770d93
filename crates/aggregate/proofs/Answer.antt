-- What an input is like that passed its tests, and outputs with room. Assumes nothing.
use Rattle.std.specs.Prelude.{Result, Ok, Err}
use Prim.Native.Nat.{ℕ, ◌/◌, ◌%◌, ◌≤◌}
use mathlib.Core.Path.{◌≡◌, refl, sym}
use mathlib.Core.Bool.{Bool, true, false, cond, ◌&&◌, true≢false}
use mathlib.Core.List.{List}
use native.Mathlib.Omega.{arith}
use lib.Dec.{eqb, leb, ltb}
use lib.ListN.{length, take, length-take}
use borrow.Author.Tests.{eqb-true, leb-true, ltb-false}
use Rattle.answer.specs.Answers.{first, room_for}
use Rattle.answer.specs.declared.Refusal.{Refusal}
use Rattle.answer.specs.declared.Refusal.TheVariants as refusal
use Rattle.answer.proofs.Passed.{passed, both}
use Rattle.aggregate_choice.specs.Choice.{pairs_of}
use Rattle.aggregate_choice.proofs.Pairs.{Below, below_pairs}
use Rattle.aggregate.specs.Extract.{Given, Room, few, even, found, choice_in, count_answer, lengths_answer, values_answer, input_answer, room_answer}

-- a test that is asked for did hold where all is done
held : (b : Bool) (why : Refusal) (done : Result Unit Refusal) → done ≡ Ok tt → cond b done (Err why) ≡ Ok tt → b ≡ true
held true why done d e = refl
held false why done d e = let z : ◌≡◌ {A = ℕ} 0 1 = cc in absurd (omega arith)

few_is : (m x y s i c r a d : ℕ) → few m x y s i c r a d ≡ true → (m / 8 ≤ 144000000) × (x ≤ 100) × (c ≤ 100) × (r ≤ 100)
few_is m x y s i c r a d =
    go (leb (m / 8) 144000000) (leb x 100) (leb y 100 && leb s 100) (leb i 100) (leb c 100) (leb r 100) (leb a 100 && leb d 100)
    (leb-true (m / 8) 144000000) (leb-true x 100) (leb-true c 100) (leb-true r 100)
  where
    no : {X : Type 0} → false ≡ true → X
    no e = absurd (true≢false (sym e))

    go : (m' x' y' i' c' r' a' : Bool) → (m' ≡ true → m / 8 ≤ 144000000) → (x' ≡ true → x ≤ 100) → (c' ≡ true → c ≤ 100) → (r' ≡ true → r ≤ 100)
        → (m' && ((x' && y') && ((i' && c') && (r' && a')))) ≡ true → (m / 8 ≤ 144000000) × (x ≤ 100) × (c ≤ 100) × (r ≤ 100)
    go false x' y' i' c' r' a' f g h k e = no e
    go true false y' i' c' r' a' f g h k e = no e
    go true true false i' c' r' a' f g h k e = no e
    go true true true false c' r' a' f g h k e = no e
    go true true true true false r' a' f g h k e = no e
    go true true true true true false a' f g h k e = no e
    go true true true true true true a' f g h k e = (f refl, g refl, h refl, k refl)

even_is : (m x y s r a d : ℕ) → even m x y s r a d ≡ true → m % 8 ≡ 0
even_is m x y s r a d = go (eqb (m % 8) 0) (eqb-true (m % 8) 0)
  where
    go : (m' : Bool) → (m' ≡ true → m % 8 ≡ 0) → (m' && ((eqb y x && eqb s x) && (eqb a r && eqb d r))) ≡ true → m % 8 ≡ 0
    go true f e = f refl
    go false f e = absurd (true≢false (sym e))

pub within : (g : Given) → input_answer g ≡ Ok tt → (length g.matches ≤ 1152000000) × (length g.xs ≤ 100) × (length g.catalogue ≤ 100) × (length g.results ≤ 100)
unfolding input_answer
within g e =
    let a = both (count_answer g) (first (lengths_answer g) (values_answer g)) e in
    let c = few_is (length g.matches) (length g.xs) (length g.ys) (length g.snrs) (length g.images) (length g.catalogue) (length g.results) (length g.ras) (length g.decs) (held _ refusal.Count _ refl a.0) in
    let z = even_is (length g.matches) (length g.xs) (length g.ys) (length g.snrs) (length g.results) (length g.ras) (length g.decs) (held _ refusal.Lengths _ refl (both (lengths_answer g) (values_answer g) a.1).0) in
    (omega arith, c.1, c.2, c.3)

fits : (n k : ℕ) → room_for n k ≡ Ok tt → n ≤ k
fits n k e = ltb-false k n (passed (ltb k n) refusal.Room (Ok tt) e).0

pub long_enough : (o : Room) (n : ℕ) → room_answer n o ≡ Ok tt → (n ≤ o.px) × (n ≤ o.py) × (n ≤ o.ra) × (n ≤ o.dec) × (n ≤ o.votes) × (n ≤ o.snr)
unfolding room_answer
long_enough o n e =
    let a = both (room_for n o.px) _ e in
    let b = both (room_for n o.py) _ a.1 in
    let c = both (room_for n o.ra) _ b.1 in
    let d = both (room_for n o.dec) _ c.1 in
    let f = both (room_for n o.votes) (room_for n o.snr) d.1 in
    (fits n o.px a.0, fits n o.py b.0, fits n o.ra c.0, fits n o.dec d.0, fits n o.votes f.0, fits n o.snr f.1)

pub counted : (n : ℕ) (order l : List ℕ) → take n order ≡ l → n ≤ 100 → length order ≡ 100 → n ≡ length l
counted n order l e h k = rw (← e, length-take) (omega arith)

pub below : (g : Given) → Below (length g.xs) (found g)
unfolding pairs_of
below g = below_pairs g.results (choice_in g) (length g.xs) (length g.xs) (omega arith)
