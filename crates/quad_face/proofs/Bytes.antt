-- The five bytes of a state read back to the state that was written: after `combinations_4` they hold the first state, and after each step the state that the step leaves. Assumes nothing.
use Rattle.answer.specs.declared.Refusal.{Refusal}
use Rattle.std.specs.Prelude.{Ok, Result, Err}
use mathlib.Core.Path.{◌≡◌, refl, sym, ap}
use mathlib.Core.Bool.{Bool, true, false, cond}
use mathlib.Core.List.{List, ◌++◌}
use Prim.Native.Nat.{ℕ, ◌+◌, ◌≤◌}
use borrow.Author.Tests.{le-ltb}
use lib.Dec.{ltb, eqb}
use lib.ListN.{length, drop}
use Rattle.answer.specs.Answers.{written, lent_after}
use Rattle.answer.specs.declared.Refusal.TheVariants as refusal
use Rattle.quad_combinations.specs.declared.Set.{Set}
use Rattle.quad_combinations.specs.declared.State.{State}
use Rattle.quad_combinations.specs.declared.Step.{Step}
use Rattle.quad_combinations.specs.declared.Step.TheVariants as step
use Rattle.quad_combinations.specs.Combinations.{four, standing, is_rising, first_of, last_of, start_of, after_of, step_of}
use Rattle.quad_combinations.specs.All.{left_by}
use Rattle.quad_face.specs.Face.{state_bytes, start_face, start_written, state_in, step_bytes, step_from, next_face}

-- 1 for true and 0 for false are told apart by 1
flag_back : (b : Bool) → eqb (cond b 1 0) 1 ≡ b
flag_back true = refl
flag_back false = refl

-- a state's bytes, whatever follows them, hold that state
pub state_back : (s : State) (more : List ℕ) → state_in s.n (state_bytes s ++ more) ≡ s
state_back s more = ap (λ (b : Bool). record { n = s.n; set = s.set; done = b }) (flag_back s.done)

-- after `combinations_4` the bytes hold the first state
pub start_back : (n : ℕ) (old : List ℕ) → n ≤ 100 → 5 ≤ length old → state_in n (lent_after (start_face n (length old)) (start_written n) old) ≡ first_of n
unfolding start_of
start_back n old h l = rw (le-ltb 100 n h, le-ltb (length old) 5 l) (go (ltb n 4))
  where
    go : (b : Bool) → state_in n (written (state_bytes (cond b (record { n = n; set = four 0 0 0 0; done = true }) (standing n (four 0 1 2 3)))) old) ≡ cond b (record { n = n; set = four 0 0 0 0; done = true }) (standing n (four 0 1 2 3))
    go true = refl
    go false = refl

-- a step keeps n, and where none is left the state
abbrev pub Leads : State → Result Step Refusal → Type 0
Leads s (Ok (step.Given x t)) = t.n ≡ s.n
Leads s (Ok (step.Ended t)) = t ≡ s
Leads s (Err why) = Unit {0}

-- the state after a set has the same n
after_n : (n : ℕ) (s : Set) → (after_of n s).n ≡ n
unfolding after_of
after_n n s = go (ltb (s.d + 1) n) (ltb (s.c + 2) n) (ltb (s.b + 3) n) (ltb (s.a + 4) n)
  where
    go : (p q r t : Bool) → (cond p (standing n (four s.a s.b s.c (s.d + 1)))
        (cond q (standing n (four s.a s.b (s.c + 1) (s.c + 2)))
        (cond r (standing n (four s.a (s.b + 1) (s.b + 2) (s.b + 3)))
        (cond t (standing n (four (s.a + 1) (s.a + 2) (s.a + 3) (s.a + 4))) (last_of n))))).n ≡ n
    go true q r t = refl
    go false true r t = refl
    go false false true t = refl
    go false false false true = refl
    go false false false false = refl

-- each step does so
pub leads : (s : State) → Leads s (step_of s)
unfolding step_of
leads s = go (ltb 100 s.n) s.done (is_rising s.n s.set) (after_of s.n s.set) (after_n s.n s.set)
  where
    go : (p q r : Bool) (t : State) → t.n ≡ s.n → Leads s (cond p (Err refusal.Count) (cond q (Ok (step.Ended s)) (cond r (Ok (step.Given s.set t)) (Err refusal.Place))))
    go true q r t e = tt
    go false true r t e = refl
    go false false true t e = e
    go false false false t e = tt

-- the bytes that a step writes hold the state that it leaves
step_back : (n : ℕ) (bytes : List ℕ) (t : Result Step Refusal) → Leads (state_in n bytes) t → state_in n (written (step_bytes t) bytes) ≡ left_by (state_in n bytes) t
step_back n bytes (Ok (step.Given x t)) h = rw (← h) (state_back t (drop 5 bytes))
step_back n bytes (Ok (step.Ended t)) h = sym h
step_back n bytes (Err why) h = refl

-- after a step the bytes hold the state that it leaves
pub next_back : (n : ℕ) (bytes : List ℕ) (room : ℕ) → next_face n bytes room ≡ Ok tt
    → state_in n (lent_after (next_face n bytes room) (step_bytes (step_from n bytes)) bytes) ≡ left_by (state_in n bytes) (step_from n bytes)
next_back n bytes room h = rw h (step_back n bytes (step_from n bytes) (leads (state_in n bytes)))
