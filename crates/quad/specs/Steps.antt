-- What the steps of the code have in hand, set by set and seed by seed. Definitions only.
use Rattle.std.specs.Prelude.{◌≡◌, List, ℕ, ◌+◌, ◌/◌, ◌%◌, ◌^◌, ◌≤◌, ◌<◌, length, get_or, Float}
use Rattle.std.proofs.lemmas.List.Edits.{sets}
use Rattle.quad_stars.specs.declared.Four.{Four}
use Rattle.quad_stars.specs.Stars.{star_at, dist_sq}
use Rattle.quad_spine.specs.declared.Pair.{Pair}
use Rattle.quad_spine.specs.declared.Pair.TheVariants.{P01, P02, P03, P12, P13, P23}
use Rattle.quad_spine.specs.Spine.{oriented}
use Rattle.quad_spine.specs.Steps.{four_by}
use Rattle.quad_visit.specs.Visits.{FourBelow}
use Rattle.quad_visit.specs.Met.{new_of}
use Rattle.quad_lists.specs.Lists.{rows_of, Held}
use Rattle.quad.specs.Quads.{four_of, all_places, all_hashes}

-- the squared spine of a visited set
abbrev pub span_in : List Float → List Float → ℕ → Float
span_in xs ys s = dist_sq (four_of xs ys s).a (four_of xs ys s).b

-- the place of a set that stands so many bits up in its number
abbrev pub place_in : ℕ → ℕ → ℕ
place_in s shift = s / 2 ^ shift % 256

-- where its places stand, a pair of them first and then the other two: a byte for each says by how many bits
abbrev pub shifts_of : Pair → ℕ
shifts_of P01 = 0x18_10_08_00
shifts_of P02 = 0x18_08_10_00
shifts_of P03 = 0x18_00_10_08
shifts_of P12 = 0x10_08_18_00
shifts_of P13 = 0x10_00_18_08
shifts_of P23 = 0x08_00_18_10

-- its four stars with a pair of them first, in order
abbrev pub four_in : List Float → List Float → ℕ → Pair → Four
four_in xs ys s pair =
    oriented
    (four_by
    (star_at xs ys (s / 16777216 % 256)) (star_at xs ys (s / 65536 % 256)) (star_at xs ys (s / 256 % 256)) (star_at xs ys (s % 256))
    pair)

-- s is a set of four rising places of stars that are in both lists
pub record Among (xs ys : List Float) (s : ℕ) : Type 0 where
  pub alike : length ys ≡ length xs
  pub most : length xs ≤ 100
  pub four : FourBelow (length xs) s

-- the first n sets of a store are such sets
pub record Sets (xs ys : List Float) (store : List ℕ) (n : ℕ) : Type 0 where
  pub fits : n ≤ length store
  pub few : n ≤ 120
  pub each : (i : ℕ) → i < n → Among xs ys (get_or store i 0)

-- the lists and words of the stars, by which each seed's new sets are such sets
pub record Seeds (xs ys : List Float) (c : ℕ) (lists words : List ℕ) : Type 0 where
  pub held : Held (length xs) c lists words
  pub each : (seed i : ℕ) → seed < length xs → i < length (new_of (rows_of lists c) seed)
      → Among xs ys (get_or (new_of (rows_of lists c) seed) i 0)

-- the quads of a list of sets are written into both lists from p on, up to q
pub record Written (xs ys : List Float) (least : Float) (ss : List ℕ) (p q : ℕ)
    (places : List ℕ) (hashes : List Float) (places' : List ℕ) (hashes' : List Float) : Type 0 where
  pub next : q ≡ p + length (all_places xs ys least ss)
  pub places_are : places' ≡ sets places p (all_places xs ys least ss)
  pub hashes_are : hashes' ≡ sets hashes p (all_hashes xs ys least ss)
