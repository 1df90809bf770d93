-- The neighbours of all stars as they are held: ten bytes to a star, and two words of bits. Definitions only.
use Rattle.std.specs.Prelude.{ℕ, ◌+◌, ◌*◌, ◌/◌, ◌%◌, ◌^◌, ◌≤◌, ◌<◌, ◌≡◌, Bool, true, ◌&&◌, List, eqb, ltb, length, get_or, take, drop}
use Rattle.quad_visit.specs.Visit.{memb}
use Rattle.quad_visit.specs.Met.{new_from}

-- the first c of the ten bytes of star p
abbrev pub rows_of : List ℕ → ℕ → ℕ → List ℕ
rows_of lists c p = take c (drop (p * 10) lists)

-- whether bit v of a word is on
unfoldable pub bit : ℕ → ℕ → Bool
bit word v = eqb (word / 2 ^ v % 2) 1

-- whether the bit of place q is on in the two words of star p
abbrev pub bit_at : List ℕ → ℕ → ℕ → Bool
bit_at words p q = bit (get_or words (p * 2 + q / 64) 0) (q % 64)

-- whether p is below the seed, and the bits of the seed and of q are on in its words
abbrev pub cell_in : List ℕ → ℕ → ℕ → ℕ → Bool
cell_in words seed p q = (ltb p seed && bit_at words p seed) && bit_at words p q

-- lists and words of n stars, c neighbours of each: the bits are on of those places that are in its bytes, and all of these are of the n
pub record Held (n c : ℕ) (lists words : List ℕ) : Type 0 where
  pub most : n ≤ 100
  pub few : c ≤ 10
  pub long : length lists ≡ 1000
  pub long_w : length words ≡ 200
  pub below : (p u : ℕ) → p < n → memb u (rows_of lists c p) ≡ true → u < n
  pub bits : (p q : ℕ) → p < n → q < 128 → bit_at words p q ≡ memb q (rows_of lists c p)

-- they hold the neighbours of n stars
pub record Lists (near : ℕ → List ℕ) (n c : ℕ) (lists words : List ℕ) : Type 0 where
  pub held : Held n c lists words
  pub rows : (p : ℕ) → p < n → rows_of lists c p ≡ near p

-- the new sets of n seeds in turn, by the lists
unfoldable pub listed : List ℕ → ℕ → ℕ → List ℕ
listed lists c n = new_from (rows_of lists c) 0 n
