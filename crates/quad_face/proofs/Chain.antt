-- Through their five bytes the calls give every set of four places below n exactly once, in rising order. Assumes nothing.
use Rattle.answer.specs.declared.Refusal.{Refusal}
use Rattle.std.specs.Prelude.{Result, Ok, Err}
use mathlib.Core.Path.{◌≡◌, refl, sym, ap, ◌∙◌, subst}
use mathlib.Core.Bool.{Bool, true, false, cond}
use mathlib.Core.List.{List, [], ◌∷◌, ◌++◌}
use Prim.Native.Nat.{ℕ, zero, suc, ◌≤◌}
use native.Mathlib.Omega.{arith}
use borrow.Author.Tests.{le-ltb, eq-eqb}
use lib.ListN.{length, get_or, drop, length-drop}
use Rattle.answer.specs.Answers.{written, lent_after}
use Rattle.domain.specs.Domain.{is_mask_byte}
use Rattle.quad_combinations.specs.declared.State.{State}
use Rattle.quad_combinations.specs.declared.Step.{Step}
use Rattle.quad_combinations.specs.declared.Step.TheVariants as step
use Rattle.quad_combinations.specs.Combinations.{first_of, start_of, step_of}
use Rattle.quad_combinations.specs.All.{sets_below, given_by, run, left_by, state_after}
use Rattle.quad_combinations.proofs.Laws.{all_given}
use Rattle.quad_face.specs.Face.{state_bytes, start_face, start_written, state_in, step_done, step_bytes, step_from, next_face}
use Rattle.quad_face.specs.Calls.{bytes_first, bytes_next, bytes_after, places_by, places_given, places_of_all}
use Rattle.quad_face.proofs.Bytes.{state_back, start_back, Leads, leads}

-- five bytes, the last 0 or 1
pub record Good (bytes : List ℕ) : Type 0 where
  pub five : length bytes ≡ 5
  pub flag : is_mask_byte (get_or bytes 4 0) ≡ true

flag_good : (b : Bool) → is_mask_byte (cond b 1 0) ≡ true
flag_good true = refl
flag_good false = refl

-- a state's bytes are such
state_good : (s : State) (old : List ℕ) → length old ≡ 5 → Good (written (state_bytes s) old)
state_good s old h = record { five = rw (length-drop 5 old) (omega arith); flag = flag_good s.done }

first_good : (n : ℕ) (old : List ℕ) → n ≤ 100 → length old ≡ 5 → Good (bytes_first n old)
unfolding start_of
first_good n old h l = rw (le-ltb 100 n h) (state_good (first_of n) old l)

module _ (n : ℕ) (hn : n ≤ 100) where
  -- a call on such bytes is decided by its step
  decided : (bytes : List ℕ) → Good bytes → next_face n bytes 4 ≡ step_done (step_from n bytes) 4
  decided bytes g = rw (le-ltb 100 n hn, eq-eqb (length bytes) 5 g.five, g.flag)

  -- what a step does to the bytes and the state in them
  one_step : (bytes : List ℕ) → Good bytes → (t : Result Step Refusal) → Leads (state_in n bytes) t
      → Good (lent_after (step_done t 4) (step_bytes t) bytes) × (state_in n (lent_after (step_done t 4) (step_bytes t) bytes) ≡ left_by (state_in n bytes) t)
  one_step bytes g (Ok (step.Given x t)) h = (state_good t bytes g.five, rw (← h) (state_back t (drop 5 bytes)))
  one_step bytes g (Ok (step.Ended t)) h = (g, sym h)
  one_step bytes g (Err why) h = (g, refl)

  next : (bytes : List ℕ) → Good bytes → Good (bytes_next n bytes) × (state_in n (bytes_next n bytes) ≡ left_by (state_in n bytes) (step_from n bytes))
  next bytes g = rw (decided bytes g) (one_step bytes g (step_from n bytes) (leads (state_in n bytes)))

  -- after k calls the bytes hold the state after k steps
  pub after_calls : (k : ℕ) (bytes : List ℕ) → Good bytes → state_in n (bytes_after n k bytes) ≡ state_after k (state_in n bytes)
  unfolding bytes_after state_after
  after_calls zero bytes g = refl
  after_calls (suc k) bytes g = let m = next bytes g in after_calls k (bytes_next n bytes) m.0 ∙ ap (state_after k) m.1

  -- no set is given
  abbrev None : Result Step Refusal → Type 0
  None (Ok (step.Given x t)) = ⊥
  None (Ok (step.Ended t)) = Unit {0}
  None (Err why) = Unit {0}

  stays : (s : State) (t : Result Step Refusal) → Leads s t → None t → left_by s t ≡ s
  stays s (Ok (step.Given x t)) h e = absurd e
  stays s (Ok (step.Ended t)) h e = h
  stays s (Err why) h e = refl

  no_places : (t : Result Step Refusal) → None t → places_by (step_done t 4) t ≡ []
  no_places (Ok (step.Given x t)) e = absurd e
  no_places (Ok (step.Ended t)) e = refl
  no_places (Err why) e = refl

  -- where a step gives none, none comes any more
  rests : (k : ℕ) (bytes : List ℕ) → Good bytes → None (step_from n bytes) → places_given n k bytes ≡ []
  unfolding places_given
  rests zero bytes g e = refl
  rests (suc k) bytes g e =
      let m = next bytes g in
      let same : state_in n (bytes_next n bytes) ≡ state_in n bytes = m.1 ∙ stays (state_in n bytes) (step_from n bytes) (leads (state_in n bytes)) e in
      ap (λ (l : List ℕ). l ++ places_given n k (bytes_next n bytes)) (ap (λ (a : Result Unit Refusal). places_by a (step_from n bytes)) (decided bytes g) ∙ no_places (step_from n bytes) e)
      ∙ rests k (bytes_next n bytes) m.0 (subst (λ (s : State). None (step_of s)) (sym same) e)

  -- k calls give the sets that k steps give
  pub given_calls : (k : ℕ) (bytes : List ℕ) → Good bytes → places_given n k bytes ≡ places_of_all (run k (state_in n bytes))
  unfolding places_given run places_of_all
  given_calls zero bytes g = refl
  given_calls (suc k) bytes g = go (step_from n bytes) refl (given_calls k (bytes_next n bytes) (next bytes g).0)
    where
      go : (t : Result Step Refusal) → step_from n bytes ≡ t → places_given n k (bytes_next n bytes) ≡ places_of_all (run k (state_in n (bytes_next n bytes)))
          → places_given n (suc k) bytes ≡ places_of_all (given_by (run k) t)
      go (Ok (step.Given x t)) e f =
          let left : state_in n (bytes_next n bytes) ≡ t = (next bytes g).1 ∙ ap (left_by (state_in n bytes)) e in
          ap (λ (a : Result Unit Refusal). places_by a (step_from n bytes) ++ places_given n k (bytes_next n bytes)) (decided bytes g)
          ∙ ap (λ (u : Result Step Refusal). places_by (step_done u 4) u ++ places_given n k (bytes_next n bytes)) e
          ∙ ap (λ (l : List ℕ). x.a ∷ x.b ∷ x.c ∷ x.d ∷ l) (f ∙ ap (λ (s : State). places_of_all (run k s)) left)
      go (Ok (step.Ended t)) e f = rests (suc k) bytes g (subst None (sym e) tt)
      go (Err why) e f = rests (suc k) bytes g (subst None (sym e) tt)

  -- from the start as many calls as there are sets, or more, give every set of four places below n once, in rising order
  pub calls_give_all : (old : List ℕ) → length old ≡ 5 → (k : ℕ) → length (sets_below n) ≤ k → places_given n k (bytes_first n old) ≡ places_of_all (sets_below n)
  calls_give_all old l k h =
      given_calls k (bytes_first n old) (first_good n old hn l)
      ∙ ap (λ (s : State). places_of_all (run k s)) (subst (λ (m : ℕ). state_in n (lent_after (start_face n m) (start_written n) old) ≡ first_of n) l (start_back n old hn (omega arith)))
      ∙ ap places_of_all ((all_given n hn).whole k h)
