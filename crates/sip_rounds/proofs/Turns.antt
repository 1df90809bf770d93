-- One round off the count, and how it ends. Assumes nothing.
use Rattle.std.specs.Prelude.{Result, Ok, Err}
use mathlib.Core.Path.{◌≡◌, refl, ◌∙◌}
use mathlib.Core.List.{List}
use Prim.Native.Nat.{ℕ, suc, ◌+◌, ◌-◌, ◌≤◌, ◌<◌}
use native.Mathlib.Omega.{arith}
use lib.ListN.{length}
use lib.Ieee.{Float}
use borrow.Author.Tests.{eq-eqb, ne_eqb}
use Rattle.answer.specs.declared.Refusal.{Refusal}
use Rattle.rows.specs.Rows.{count}
use Rattle.sip_sums.specs.Field.{Field}
use Rattle.sip_solve.specs.Solve.{solve_of, coefficients_as}
use Rattle.sip_clip.specs.Clip.{errors_of, clipped, clip_of}
use Rattle.sip_clip.proofs.Rejecting.{errors_stay}
use Rattle.sip_rounds.specs.Rounds.{Fitted, Failed, after_solve, after_last, rounds_from, ended_as}

module _ (f : Field) (n round : ℕ) (mask : List ℕ) (r : Result Unit Refusal) (a b : List Float) (solved : coefficients_as r a b ≡ solve_of f mask n) where
  more : round < 10 → rounds_from f n (10 - round) mask ≡ after_solve f mask (coefficients_as r a b) (rounds_from f n (10 - (round + 1)))
  unfolding rounds_from
  more h =
      let e : 10 - round ≡ suc (10 - (round + 1)) = omega arith in
      rw (e, solved)

  -- the solves are refused
  pub round_failed : (why : Refusal) → round < 10 → r ≡ Err why → rounds_from f n (10 - round) mask ≡ Failed why
  round_failed why h e = more h ∙ rw e

  -- they are done, and the clip by their errors decides
  module _ (es : List Float) (new : List ℕ) (off : ℕ) (h : round < 10) (done : r ≡ Ok tt) (errors : es ≡ errors_of f.rows f.wcs mask a b) (clip : clipped new off ≡ clip_of f.snr mask es) where
    pub round_ended : off ≡ 0 → rounds_from f n (10 - round) mask ≡ Fitted new a b
    round_ended z = more h ∙ rw (done, ← errors, ← clip, eq-eqb off 0 z)

    pub round_goes_on : (off ≡ 0 → ⊥) → rounds_from f n (10 - round) mask ≡ rounds_from f n (10 - (round + 1)) new
    round_goes_on z = more h ∙ rw (done, ← errors, ← clip, ne_eqb off 0 z)

    pub errors_kept : off ≡ 0 → length mask ≡ count f.rows → es ≡ errors_of f.rows f.wcs new a b
    errors_kept z g =
        let c : (clip_of f.snr mask es).rejected ≡ 0 = rw (← clip) z in
        let m : (clip_of f.snr mask es).mask ≡ new = rw (← clip) in
        errors ∙ errors_stay f.rows f.wcs f.snr es mask a b g c ∙ rw m

  -- after ten rounds
  pub round_last : 10 ≤ round → rounds_from f n (10 - round) mask ≡ ended_as r mask a b
  unfolding rounds_from
  round_last h =
      let e : 10 - round ≡ 0 = omega arith in
      rw (e, ← solved) (go r)
    where
      go : (r : Result Unit Refusal) → after_last mask (coefficients_as r a b) ≡ ended_as r mask a b
      go (Ok tt) = refl
      go (Err why) = refl
