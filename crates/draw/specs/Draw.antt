-- The words of the draw, and the triples of places that they give. Definitions only.
use Rattle.std.specs.Prelude.{Bool, cond, ◌||◌, List, [], ◌∷◌, ℕ, zero, suc, ◌*◌, ◌/◌, ◌%◌, ◌^◌, eqb}
use Rattle.std.proofs.Math.Option.{Option, none}
use Rattle.std.specs.Int.Bits.{bit_xor}
use Rattle.draw.specs.declared.Three.{Three}

-- x, with its bits moved up by k places; those past the top of 64 are dropped
abbrev pub up : ℕ → ℕ → ℕ
up x k = x * 2 ^ k % 2 ^ 64

-- x, with its bits moved down by k places
abbrev pub down : ℕ → ℕ → ℕ
down x k = x / 2 ^ k

-- x ^= x << k
abbrev pub mix_up : ℕ → ℕ → ℕ
mix_up x k = bit_xor x (up x k)

-- x ^= x >> k
abbrev pub mix_down : ℕ → ℕ → ℕ
mix_down x k = bit_xor x (down x k)

-- the word after x: x ^= x << 13; x ^= x >> 7; x ^= x << 17
unfoldable pub next_word : ℕ → ℕ
next_word x = mix_up (mix_down (mix_up x 13) 7) 17

-- three places
pub record Triple : Type 0 where
  pub a : ℕ
  pub b : ℕ
  pub c : ℕ

-- the places of three that were drawn
abbrev pub triple_of : Three → Triple
triple_of t = record { a = t.a; b = t.b; c = t.c }

-- the word after three draws
abbrev pub three_words : ℕ → ℕ
three_words w = next_word (next_word (next_word w))

-- the places that the three words after w draw from n: each word modulo n
unfoldable pub triple_after : ℕ → ℕ → Triple
triple_after n w = record { a = next_word w % n; b = next_word (next_word w) % n; c = three_words w % n }

-- those places, with the word after them
abbrev pub three_after : ℕ → ℕ → Three
three_after n w = record { a = (triple_after n w).a; b = (triple_after n w).b; c = (triple_after n w).c; word = three_words w }

-- the word at the end of so many trials that begin at the word w
unfoldable pub word_after : ℕ → ℕ → ℕ
word_after zero w = w
word_after (suc trials) w = word_after trials (three_words w)

-- the triples that so many trials draw from n places, beginning at the word w
unfoldable pub triples : ℕ → ℕ → ℕ → List Triple
triples n zero w = []
triples n (suc trials) w = triple_after n w ∷ triples n trials (three_words w)

-- two of the places are equal
abbrev pub is_repeated : Triple → Bool
is_repeated t = eqb t.a t.b || (eqb t.b t.c || eqb t.a t.c)

-- a triple with two equal places counts as one that cannot be fitted
abbrev pub unless_repeated : {Model : Type 0} → Triple → Option Model → Option Model
unless_repeated t o = cond (is_repeated t) none o
