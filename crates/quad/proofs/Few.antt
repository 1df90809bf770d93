-- How many quads a list of stars has at most; and with room for them all the answer is never number 7. Assumes nothing.
use Rattle.std.specs.Prelude.{Ok}
use Prim.Native.Nat.{ℕ, ◌+◌, ◌-◌, ◌*◌, ◌/◌, ◌≤◌}
use mathlib.Core.Path.{◌≡◌, refl, sym, ap}
use mathlib.Core.List.{List, [], ◌∷◌}
use native.Mathlib.Omega.{arith}
use native.Mathlib.Nat.{mul-le-mul}
use lib.ListN.{length, length-append}
use lib.Ieee.{Float}
use Rattle.quad_visit.specs.Visit.{visited}
use Rattle.quad_visit.proofs.Visited.{visited_sets}
use Rattle.quad.specs.declared.Tried.{Tried}
use Rattle.quad.specs.declared.Tried.TheVariants as tried
use Rattle.quad.specs.Quads.{quad_of, places_in, all_places, quad_places, input_answer, answer_after, quads_answer}
use Rattle.quad.proofs.Laws.{few_places, has_room}

-- a quad writes four, and what is not kept none
four_or_none : (q : Tried) → 4 * (length (places_in q) / 4) ≡ length (places_in q)
four_or_none (tried.Kept h) = refl
four_or_none tried.Short = refl
four_or_none tried.Degenerate = refl

by_fours : (xs ys : List Float) (least : Float) (l : List ℕ) → 4 * (length (all_places xs ys least l) / 4) ≡ length (all_places xs ys least l)
by_fours xs ys least [] = refl
by_fours xs ys least (s ∷ l) =
    let q = quad_of xs ys least s in
    rw (length-append (places_in q) (all_places xs ys least l)) (sum (length (places_in q)) (length (all_places xs ys least l)) (four_or_none q) (by_fours xs ys least l))
  where
    sum : (a b : ℕ) → 4 * (a / 4) ≡ a → 4 * (b / 4) ≡ b → 4 * ((a + b) / 4) ≡ a + b
    sum a b e f = omega arith

module _ (xs ys : List Float) (k : ℕ) (least : Float) where
  -- each quad has four places
  pub four_each : 4 * (length (quad_places xs ys k least) / 4) ≡ length (quad_places xs ys k least)
  unfolding quad_places
  four_each = by_fours xs ys least (visited xs ys k)

  -- n stars have at most n (n - 1) (n - 2) (n - 3) / 24 quads
  pub quads_few : length (quad_places xs ys k least) / 4 * 24 ≤ length xs * (length xs - 1) * (length xs - 2) * (length xs - 3)
  unfolding quad_places
  quads_few = go (length (quad_places xs ys k least)) (length (visited xs ys k)) _ (few_places xs ys least (visited xs ys k)) (visited_sets xs ys k).few
    where
      go : (p v n : ℕ) → p ≤ v * 4 → v * 24 ≤ n → p / 4 * 24 ≤ n
      go p v n h g = omega arith

  -- and with at most ten neighbours at most 120 for each star
  pub quads_120 : k ≤ 10 → length (quad_places xs ys k least) / 4 ≤ length xs * 120
  unfolding quad_places
  quads_120 h = go (length (quad_places xs ys k least)) (length (visited xs ys k)) (few_places xs ys least (visited xs ys k)) ((visited_sets xs ys k).each_120 h)
    where
      go : (p v : ℕ) → p ≤ v * 4 → v ≤ length xs * 120 → p / 4 ≤ length xs * 120
      go p v h g = omega arith

  -- so that 14 stars have at most 1,001, whose places are 4,004
  pub fourteen : length xs ≤ 14 → length (quad_places xs ys k least) ≤ 4004
  fourteen h =
      let a : length xs - 1 ≤ 13 = omega arith in
      let b : length xs - 2 ≤ 12 = omega arith in
      let c : length xs - 3 ≤ 11 = omega arith in
      let m : length xs * (length xs - 1) * (length xs - 2) * (length xs - 3) ≤ 14 * 13 * 12 * 11 = mul-le-mul (mul-le-mul (mul-le-mul h a) b) c in
      go (length (quad_places xs ys k least)) _ quads_few m four_each
    where
      go : (p n : ℕ) → p / 4 * 24 ≤ n → n ≤ 24024 → 4 * (p / 4) ≡ p → p ≤ 4004
      go p n e f g = omega arith

  -- where there is room for all, an input that passes its tests is never refused
  pub room_for_all : (room room-h : ℕ) → length (quad_places xs ys k least) ≤ room → length (quad_places xs ys k least) ≤ room-h
      → quads_answer xs ys k least room room-h ≡ answer_after (input_answer xs ys k least) (Ok (length (quad_places xs ys k least) / 4))
  unfolding quads_answer
  room_for_all room room-h g h = ap (answer_after (input_answer xs ys k least)) (sym (has_room (length (quad_places xs ys k least)) room room-h g h))
