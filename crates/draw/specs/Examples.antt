-- Worked examples, each by computation.
use Rattle.std.specs.Prelude.{◌≡◌, refl, [], ◌∷◌, ℕ}
use Rattle.std.proofs.Math.Option.{some, none}
use Rattle.draw.specs.Draw.{next_word, triple_after, word_after, triples, unless_repeated}

-- P11
word_of_one : next_word 1 ≡ 0x4082_2041
unfolding next_word
word_of_one = refl

-- bits past the top are dropped
word_of_the_top : next_word 0x8000_0000_0000_0000 ≡ 0x8100_0000_0000_0000
unfolding next_word
word_of_the_top = refl

-- three trials over six places; the first is drawn, and skipped
three_trials : triples 6 3 0xcafe_babe_dead_beef
    ≡ record { a = 2; b = 2; c = 1 } ∷ record { a = 2; b = 5; c = 4 } ∷ record { a = 2; b = 4; c = 0 } ∷ []
unfolding triples triple_after next_word
three_trials = refl

word_of_three : word_after 3 0xcafe_babe_dead_beef ≡ 0xa2ad_e906_6de0_2804
unfolding word_after next_word
word_of_three = refl

skipped : unless_repeated {Model = ℕ} (record { a = 2; b = 2; c = 1 }) (some 7) ≡ none
skipped = refl
