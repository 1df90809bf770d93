-- What the code of a search holds, against what `Best` says that it holds: the laws that any search's proofs cite. Assumes nothing.
use mathlib.Core.Path.{◌≡◌, refl}
use mathlib.Core.Option.{Option, some, none}
use Prim.Native.Nat.{ℕ, ◌+◌, ◌≤◌, ◌<◌, max}
use native.Mathlib.Numerals.{add-one}
use native.Mathlib.Omega.{arith}
use borrow.Author.Tests.{le-leb, lt-leb, lt-ltb, le-ltb}
use Rattle.draw.specs.Best.{count, improved, keep_if, keep, step, run, best, no_refit}
use Rattle.draw.specs.Holds.{Holds}
use Rattle.draw.specs.Draw.{Triple, three_words, triple_after, word_after, triples}
use Rattle.draw.proofs.Best.{run_snoc, keep_greater, more_trials}
use Rattle.draw.proofs.Drawing.{word_suc, triples_suc, triples_add}

module _ {Model Trial : Type 0} (fit : Trial → Option Model) (refit : Model → Option Model) (agree : Model → ℕ) where
  -- ---- a model and its refit
  module _ (m : Model) (n : ℕ) (e : n ≡ agree m) where
    pub improve_none : refit m ≡ none → Holds fit refit agree (some (improved fit refit agree m (refit m))) (some m) n
    unfolding improved
    improve_none h = rw h (record { model = refl; rows_on = e })

    pub improve_again : (r : Model) (k : ℕ) → k ≡ agree r → refit m ≡ some r → n ≤ k → Holds fit refit agree (some (improved fit refit agree m (refit m))) (some r) k
    unfolding improved
    improve_again r k a h l =
        let t : agree m ≤ agree r = omega arith in
        rw (h, le-leb _ _ t) (record { model = refl; rows_on = a })

    pub improve_kept : (r : Model) (k : ℕ) → k ≡ agree r → refit m ≡ some r → k < n → Holds fit refit agree (some (improved fit refit agree m (refit m))) (some m) n
    unfolding improved
    improve_kept r k a h l =
        let t : agree r < agree m = omega arith in
        rw (h, lt-leb _ _ t) (record { model = refl; rows_on = e })

  -- ---- what is held, after one more fit f
  module _ (have f : Option Model) (n : ℕ) (e : n ≡ count fit refit agree have) where
    pub keep_none : f ≡ none → Holds fit refit agree (keep fit refit agree have f) have n
    unfolding keep
    keep_none b = rw b (record { model = refl; rows_on = e })

    pub keep_held : (m : Model) → f ≡ some m → (k : ℕ) → k ≡ agree m → k ≤ n → Holds fit refit agree (keep fit refit agree have f) have n
    unfolding keep keep_if
    keep_held m b k a l =
        let t : agree m ≤ count fit refit agree have = omega arith in
        rw (b, le-ltb _ _ t) (record { model = refl; rows_on = e })

    pub keep_new : (m : Model) → f ≡ some m → (k : ℕ) → k ≡ agree m → n < k → (new : Option Model) (j : ℕ)
        → Holds fit refit agree (some (improved fit refit agree m (refit m))) new j → Holds fit refit agree (keep fit refit agree have f) new j
    unfolding keep keep_if
    keep_new m b k a l new j d =
        let t : count fit refit agree have < agree m = omega arith in
        rw (b, lt-ltb _ _ t) d

-- ---- a run over n places, from a start word
module _ {Model : Type 0} (fit : Triple → Option Model) (refit : Model → Option Model) (agree : Model → ℕ) (n start : ℕ) where
  -- after so many trials the code is at the word w, and holds `have` with its number k
  pub record After (trials w : ℕ) (have : Option Model) (k : ℕ) : Type 0 where
    pub word : w ≡ word_after trials start
    pub holds : Holds fit refit agree (best fit refit agree (triples n trials start)) have k

  pub after_none : After 0 start none 0
  unfolding word_after triples run
  after_none = record { word = refl; holds = record { model = refl; rows_on = refl } }

  -- one more trial
  pub after_one : (trials w : ℕ) (have : Option Model) (k : ℕ) → After trials w have k → (w₁ : ℕ) (new : Option Model) (j : ℕ) → w₁ ≡ three_words w
      → Holds fit refit agree (step fit refit agree have (triple_after n w)) new j → After (trials + 1) w₁ new j
  after_one trials w have k b w₁ new j e d =
      record {
        word = rw (add-one, word_suc, ← b.word) e;
        holds = rw (add-one, triples_suc, run_snoc, ← b.word, ← b.holds.model) d;
      }

  -- more trials: no fewer rows
  pub more_drawn : (trials more : ℕ)
      → count fit refit agree (best fit refit agree (triples n trials start)) ≤ count fit refit agree (best fit refit agree (triples n (trials + more) start))
  more_drawn trials more =
      rw (triples_add n trials more start) (more_trials fit refit agree (triples n trials start) (triples n more (word_after trials start)))

-- ---- such a run without a refit, of which the code holds the number alone
module _ {Model : Type 0} (fit : Triple → Option Model) (agree : Model → ℕ) (n start : ℕ) where
  -- after so many trials the code is at the word w, and holds the number k
  pub record Scoring (trials w k : ℕ) : Type 0 where
    pub word : w ≡ word_after trials start
    pub score : k ≡ count fit no_refit agree (best fit no_refit agree (triples n trials start))

  pub scoring_none : Scoring 0 start 0
  unfolding word_after triples run
  scoring_none = record { word = refl; score = refl }

  -- one more trial, of which the code has the number j: the greater is held
  pub scoring_one : (trials w k : ℕ) → Scoring trials w k → (w₁ j : ℕ) → w₁ ≡ three_words w
      → j ≡ count fit no_refit agree (fit (triple_after n w)) → Scoring (trials + 1) w₁ (max k j)
  scoring_one trials w k b w₁ j e d =
      record {
        word = rw (add-one, word_suc, ← b.word) e;
        score = rw (add-one, triples_suc, run_snoc, ← b.word, keep_greater, ← b.score, ← d);
      }
