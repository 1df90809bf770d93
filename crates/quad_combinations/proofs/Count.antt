-- How many sets of four places below n there are. Assumes nothing.
use mathlib.Core.Path.{◌≡◌, refl, ◌∙◌}
use mathlib.Core.List.{List, [], ◌∷◌}
use Prim.Native.Nat.{ℕ, zero, suc, ◌+◌, ◌*◌, ◌-◌}
use native.Mathlib.Omega.{arith}
use lib.ListN.{length, length-append}
use Rattle.quad_combinations.specs.declared.Set.{Set}
use Rattle.quad_combinations.specs.Combinations.{four}
use Rattle.quad_combinations.specs.All.{over, each, sets_below}
use Rattle.quad_combinations.proofs.Ranges.{from_d, from_c, from_b}

-- the number of ways to choose k of m, by whether the first is chosen
choose : ℕ → ℕ → ℕ
choose m zero = 1
choose zero (suc k) = 0
choose (suc m) (suc k) = choose m k + choose m (suc k)

-- where f gives for each number the choices of k from the numbers after it, a range of f has the choices of one more
module _ (n k : ℕ) (f : ℕ → List Set) (h : (j m : ℕ) → j + suc m ≡ n → length (f j) ≡ choose m k) where
  chosen : (i m : ℕ) → i + m ≡ n → length (over f i m) ≡ choose m (suc k)
  unfolding over choose
  chosen i zero e = refl
  chosen i (suc m) e = length-append (f i) _ ∙ rw (h i m e, chosen (suc i) m (omega arith))

  inner : (j m : ℕ) → j + suc m ≡ n → length (each n (suc j) f) ≡ choose m (suc k)
  inner j m e = let q : n - suc j ≡ m = omega arith in rw q (chosen (suc j) m (omega arith))

choices : (n : ℕ) → length (sets_below n) ≡ choose n 4
unfolding sets_below choose
choices n =
    rw (let e : n - 0 ≡ n = omega arith in e)
    (chosen n 3 (λ a. from_b n a (suc a)) (λ a. inner n 2 (λ b. from_c n a b (suc b)) (λ b. inner n 1 (λ c. from_d n a b c (suc c)) (λ c. inner n 0 (λ d. four a b c d ∷ []) (λ d m e. refl) c) b) a) 0 n (omega arith))

choose_1 : (m : ℕ) → choose m 1 ≡ m
unfolding choose
choose_1 zero = refl
choose_1 (suc m) = rw (choose_1 m) (omega arith)

choose_2 : (m : ℕ) → choose (suc m) 2 * 2 ≡ suc m * m
unfolding choose
choose_2 zero = refl
choose_2 (suc m) = let p = choose_2 m in let q = choose_1 (suc m) in omega arith

choose_3 : (m : ℕ) → choose (suc (suc m)) 3 * 6 ≡ suc (suc m) * suc m * m
unfolding choose
choose_3 zero = refl
choose_3 (suc m) = let p = choose_3 m in let q = choose_2 (suc m) in omega arith

regroup : (a b c d : ℕ) → a * (b * c * d) ≡ a * b * c * d
regroup a b c d = omega arith

grow : (m p x y : ℕ) → x * 24 ≡ p * m → y * 6 ≡ p → (y + x) * 24 ≡ suc (suc (suc (suc m))) * p
grow m p x y hx hy = omega arith

choose_4 : (m : ℕ) → choose (suc (suc (suc m))) 4 * 24 ≡ suc (suc (suc m)) * suc (suc m) * suc m * m
unfolding choose
choose_4 zero = refl
choose_4 (suc m) = grow m _ (choose (suc (suc (suc m))) 4) (choose (suc (suc (suc m))) 3) (choose_4 m) (choose_3 (suc m)) ∙ regroup (suc (suc (suc (suc m)))) (suc (suc (suc m))) (suc (suc m)) (suc m)

formula : (n : ℕ) → choose n 4 * 24 ≡ n * (n - 1) * (n - 2) * (n - 3)
unfolding choose
formula zero = refl
formula (suc zero) = refl
formula (suc (suc zero)) = refl
formula (suc (suc (suc m))) =
    let e₁ : suc (suc (suc m)) - 1 ≡ suc (suc m) = omega arith in
    let e₂ : suc (suc (suc m)) - 2 ≡ suc m = omega arith in
    let e₃ : suc (suc (suc m)) - 3 ≡ m = omega arith in
    rw (e₁, e₂, e₃) (choose_4 m)

pub count : (n : ℕ) → length (sets_below n) * 24 ≡ n * (n - 1) * (n - 2) * (n - 3)
count n = rw (choices n) (formula n)

pub count_of_100 : length (sets_below 100) ≡ 3921225
count_of_100 = let e = count 100 in omega arith
