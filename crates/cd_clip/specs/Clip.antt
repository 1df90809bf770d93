-- The weighted clip: its rounds, and what the call answers and leaves. Definitions only.
use Rattle.answer.specs.declared.Refusal.{Refusal}
use Rattle.std.specs.Prelude.{◌≡◌, cond, not, List, ℕ, zero, suc, ◌≤◌, ltb, length, Float, Result, Ok, Err}
use Rattle.answer.specs.Answers.{number_of, first}
use Rattle.answer.specs.declared.Refusal.TheVariants as refusal
use Rattle.rows.specs.Rows.{Rows, count}
use Rattle.cd_plate.specs.declared.Cd.{Cd}
use Rattle.cd_plate.specs.Plate.{is_cd, inverse_of}
use Rattle.cd_plate.specs.Errors.{errors_of}
use Rattle.cd_mask.specs.Marks.{ones}
use Rattle.cd_sums.specs.Sums.{xi_of, eta_of, weighted_sums}
use Rattle.cd_fit.specs.Fit.{fit_of, weighed_answer}
use Rattle.cd_round.specs.Round.{roots_of, squares_to, clip_of, any_rejected, mask_left}
use Rattle.cd_clip.specs.declared.Clipped.{Clipped}
use Rattle.cd_clip.specs.declared.Clipped.TheVariants as clipped

-- rows with a mask and weights: at most a hundred, in lists of one length
pub record Checked (r : Rows) (mask : List ℕ) (ws : List Float) : Type 0 where
  pub few : count r ≤ 100
  pub py_long : length r.py ≡ count r
  pub xi_long : length r.xi ≡ count r
  pub eta_long : length r.eta ≡ count r
  pub mask_long : length mask ≡ count r
  pub weights_long : length ws ≡ count r

-- the fit of the rows that are on, each by its weight
abbrev pub refit_of : Rows → List Float → List ℕ → Result Cd Refusal
refit_of r ws mask = fit_of (weighted_sums r mask ws xi_of (count r)) (weighted_sums r mask ws eta_of (count r))

-- what a round comes to: the clip is done with a mask; or rows were rejected, and those of a mask are fitted anew
pub data Round : Type 0 where
  Last : List ℕ → Round
  Refitted : List ℕ → Result Cd Refusal → Round

-- A round over the rows that are on, under a plate. It is the last where fewer than three are on, where it rejects nothing, and where fewer than three are left.
unfoldable pub round_of : Rows → List Float → List ℕ → Cd → Round
round_of r ws mask cd =
    let errors = errors_of r mask (inverse_of cd) in
    let clip = clip_of (squares_to errors ws mask (length mask)) (ones mask) in
    let left = mask_left errors (roots_of ws) mask clip in
    cond (ltb (ones mask) 3) (Last mask)
    (cond (not (any_rejected errors (roots_of ws) mask clip (length mask))) (Last left)
    (cond (ltb (ones left) 3) (Last left)
    (Refitted left (refit_of r ws left))))

-- how the clip ends: its answer, and the mask
pub record Ended : Type 0 where
  pub answer : Result Clipped Refusal
  pub mask : List ℕ

-- an answer with a mask
abbrev pub ended : Result Clipped Refusal → List ℕ → Ended
ended a m = record { answer = a; mask = m }

-- after a round under a plate: the new plate goes on; where there is none, number 8, the last good one is handed back
abbrev pub after : (List ℕ → Cd → Ended) → Cd → Round → Ended
after next cd (Last mask) = ended (Ok (clipped.Done cd)) mask
after next cd (Refitted mask (Ok better)) = next mask better
after next cd (Refitted mask (Err why)) = ended (Ok (clipped.Stopped cd)) mask

-- at most k rounds
unfoldable pub clip_from : ℕ → Rows → List Float → List ℕ → Cd → Ended
clip_from zero r ws mask cd = ended (Ok (clipped.Done cd)) mask
clip_from (suc k) r ws mask cd = after (clip_from k r ws) cd (round_of r ws mask cd)

-- what the tests come to: numbers 1, 2 and 3, or done; the plate's numbers are finite, or it is number 3
unfoldable pub clip_tests : Rows → List ℕ → Cd → List Float → Result Unit Refusal
clip_tests r mask cd ws = first (weighed_answer r mask ws) (cond (is_cd cd) (Ok tt) (Err refusal.Value))

-- the end of a clip after its tests: a refusal keeps the mask
abbrev pub ended_after : Result Unit Refusal → List ℕ → Ended → Ended
ended_after (Ok tt) mask e = e
ended_after (Err why) mask e = ended (Err why) mask

-- the end of `sigma_clip_loop_weighted`: after ten rounds at most
abbrev pub sigma_clip : Rows → List ℕ → Cd → List Float → Ended
sigma_clip r mask cd ws = ended_after (clip_tests r mask cd ws) mask (clip_from 10 r ws mask cd)

-- the number of an answer: 0 is done
abbrev pub clip_number : Result Clipped Refusal → ℕ
clip_number (Ok (clipped.Done cd)) = 0
clip_number (Ok (clipped.Stopped cd)) = 8
clip_number (Err why) = number_of why
