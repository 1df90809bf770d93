-- The rounds of a SIP fit. Definitions only.
use Rattle.std.specs.Prelude.{Bool, true, false, List, ℕ, zero, suc, eqb, replicate, Float, Result, Ok, Err}
use Rattle.answer.specs.declared.Refusal.{Refusal}
use Rattle.rows.specs.Rows.{count}
use Rattle.sip_sums.specs.Field.{Field}
use Rattle.sip_solve.specs.Solve.{Coefficients, Found, None, solve_of}
use Rattle.sip_clip.specs.Clip.{Clipped, errors_of, clip_of}

-- how the rounds end: with the rows that are on and the coefficients of both axes, or why there are none
pub data Ended : Type 0 where
  Fitted : List ℕ → List Float → List Float → Ended
  Failed : Refusal → Ended

-- the first where a test holds, else the second
abbrev pub pick_ended : Bool → Ended → Ended → Ended
pick_ended true a b = a
pick_ended false a b = b

-- after the clip of a round: they end where it turned no row off, and go on with its mask where it did
abbrev pub after_clip : Clipped → List Float → List Float → (List ℕ → Ended) → Ended
after_clip c a b rest = pick_ended (eqb c.rejected 0) (Fitted c.mask a b) (rest c.mask)

-- a round after its solves: a clip by the errors of the rows that are on
abbrev pub after_solve : Field → List ℕ → Coefficients → (List ℕ → Ended) → Ended
after_solve f mask (Found a b) rest = after_clip (clip_of f.snr mask (errors_of f.rows f.wcs mask a b)) a b rest
after_solve f mask (None why) rest = Failed why

-- the last solves, which no clip follows
abbrev pub after_last : List ℕ → Coefficients → Ended
after_last mask (Found a b) = Fitted mask a b
after_last mask (None why) = Failed why

-- k rounds in n terms, and one more solve of both where each of them turned rows off
unfoldable pub rounds_from : Field → ℕ → ℕ → List ℕ → Ended
rounds_from f n zero mask = after_last mask (solve_of f mask n)
rounds_from f n (suc k) mask = after_solve f mask (solve_of f mask n) (rounds_from f n k)

-- ten rounds, with every row on at the start
abbrev pub rounds_of : Field → ℕ → Ended
rounds_of f n = rounds_from f n 10 (replicate (count f.rows) 1)

-- an answer with a mask and two lists: the end of the rounds
abbrev pub ended_as : Result Unit Refusal → List ℕ → List Float → List Float → Ended
ended_as (Ok tt) mask a b = Fitted mask a b
ended_as (Err why) mask a b = Failed why
