-- No trial had a better plate: every run keeps what is demanded of it. Assumes nothing.
use Rattle.std.specs.Prelude.{Result, Ok, Err}
use mathlib.Core.Path.{◌≡◌, refl, sym, ap, ◌∙◌, subst}
use mathlib.Core.Bool.{Bool, true, false, cond}
use mathlib.Core.List.{List, Memᴰ}
use mathlib.Core.Option.{Option, some, none}
use Prim.Native.Nat.{ℕ, ◌≤◌, ◌<◌}
use native.Mathlib.Omega.{arith}
use lib.Dec.{ltb}
use lib.ListN.{length, take, length-replicate}
use lib.Seq.{take_at}
use lib.Ieee.{Float}
use borrow.Author.Tests.{ltb-true, ltb-false}
use Rattle.answer.specs.declared.Refusal.{Refusal}
use Rattle.answer.specs.declared.Refusal.TheVariants as refusal
use Rattle.rows.specs.Rows.{Rows}
use Rattle.rows.specs.Rows as rows
use Rattle.draw.specs.Draw.{Triple}
use Rattle.draw.specs.Best.{Made, Found, count}
use Rattle.draw.proofs.Best.{none_better, one_model, made_has}
use Rattle.draw.proofs.Drawing.{triples_in}
use Rattle.cd_plate.specs.declared.Cd.{Cd}
use Rattle.cd_mask.specs.Marks.{ones}
use Rattle.cd_near.specs.Near.{near_marks, near_count}
use Rattle.cd_trial.specs.Trial.{start_word, places_of, fit_triple, fit_again, drawn, best_of}
use Rattle.cd_trial.proofs.Fits.{near_length}
use Rattle.cd_trial.proofs.Determinant.{Exceeds, places_exceed, again_exceeds, places_differ}
use Rattle.cd_run.specs.declared.CdRun.{CdRun}
use Rattle.cd_run.specs.declared.CdRun.TheVariants as run
use Rattle.cd_run.specs.Run.{Outcome, refused, untested, fitted, held_end, pool_end, after_tests, end_answer, end_mask}
use Rattle.cd_run.specs.Demand.{Drawn, OfRun, FittedBest, AllOn, NoneHasThree}

-- an end is one of the three
pub refused_not_fitted : {why : Refusal} {m : Cd} → refused why ≡ fitted m → ⊥
refused_not_fitted e = let z : ◌≡◌ {A = ℕ} 0 1 = cc in omega arith

pub untested_not_fitted : {m : Cd} → untested ≡ fitted m → ⊥
untested_not_fitted e = let z : ◌≡◌ {A = ℕ} 0 1 = cc in omega arith

module _ (r : Rows) (limit : Float) (pool : List ℕ) (trials : ℕ) where
  -- how many rows are near to what the search holds
  abbrev pub held_count : ℕ
  held_count = count (fit_triple r pool) (fit_again r limit) (near_count r limit) (best_of r limit pool trials)

  -- ---- what an end went by
  pub record WasFitted (m : Cd) : Type 0 where
    pub tested : 3 ≤ length pool
    pub held : best_of r limit pool trials ≡ some m
    pub three : 3 ≤ near_count r limit m

  pub was_fitted : (m : Cd) → pool_end r limit pool trials ≡ fitted m → WasFitted m
  unfolding pool_end held_end
  was_fitted m = one (ltb (length pool) 3) refl
    where
      three : 3 ≤ length pool → (k : Cd) → best_of r limit pool trials ≡ some k → (b : Bool) → ltb (near_count r limit k) 3 ≡ b
          → cond b (refused refusal.Few) (fitted k) ≡ fitted m → WasFitted m
      three p k h true l e = absurd (refused_not_fitted e)
      three p k h false l e =
          let q : k ≡ m = cc in
          record { tested = p; held = h ∙ ap some q; three = subst (λ x. 3 ≤ near_count r limit x) q (ltb-false _ _ l) }

      two : 3 ≤ length pool → (o : Option Cd) → best_of r limit pool trials ≡ o → held_end r limit o ≡ fitted m → WasFitted m
      two p none h e = absurd (refused_not_fitted e)
      two p (some k) h e = three p k h (ltb (near_count r limit k) 3) refl e

      one : (b : Bool) → ltb (length pool) 3 ≡ b → cond b untested (held_end r limit (best_of r limit pool trials)) ≡ fitted m → WasFitted m
      one true l e = absurd (untested_not_fitted e)
      one false l e = two (ltb-false _ _ l) (best_of r limit pool trials) refl e

  was_untested : pool_end r limit pool trials ≡ untested → length pool < 3
  unfolding pool_end held_end
  was_untested = one (ltb (length pool) 3) refl
    where
      two : (o : Option Cd) → held_end r limit o ≡ untested → length pool < 3
      two none e = let z : ◌≡◌ {A = ℕ} 0 1 = cc in absurd (omega arith)
      two (some k) e = three (ltb (near_count r limit k) 3) e
        where
          three : (b : Bool) → cond b (refused refusal.Few) (fitted k) ≡ untested → length pool < 3
          three true e = let z : ◌≡◌ {A = ℕ} 0 1 = cc in absurd (omega arith)
          three false e = let z : ◌≡◌ {A = ℕ} 0 1 = cc in absurd (omega arith)

      one : (b : Bool) → ltb (length pool) 3 ≡ b → cond b untested (held_end r limit (best_of r limit pool trials)) ≡ untested → length pool < 3
      one true l e = ltb-true _ _ l
      one false l e = two (best_of r limit pool trials) e

  was_refused : (why : Refusal) → pool_end r limit pool trials ≡ refused why → (3 ≤ length pool) × (held_count < 3)
  unfolding pool_end held_end
  was_refused why = one (ltb (length pool) 3) refl
    where
      two : (o : Option Cd) → best_of r limit pool trials ≡ o → held_end r limit o ≡ refused why → held_count < 3
      two none h e = omega (arith, ap (count (fit_triple r pool) (fit_again r limit) (near_count r limit)) h)
      two (some k) h e = three (ltb (near_count r limit k) 3) refl e
        where
          three : (b : Bool) → ltb (near_count r limit k) 3 ≡ b → cond b (refused refusal.Few) (fitted k) ≡ refused why → held_count < 3
          three true l e = omega (arith, ap (count (fit_triple r pool) (fit_again r limit) (near_count r limit)) h, ltb-true (near_count r limit k) 3 l)
          three false l e = absurd (refused_not_fitted (sym e))

      one : (b : Bool) → ltb (length pool) 3 ≡ b → cond b untested (held_end r limit (best_of r limit pool trials)) ≡ refused why → (3 ≤ length pool) × (held_count < 3)
      one true l e = let z : ◌≡◌ {A = ℕ} 0 1 = cc in absurd (omega arith)
      one false l e = (ltb-false _ _ l, two (best_of r limit pool trials) refl e)

  -- ---- the plate that is held
  -- a triple of the draw that can be fitted is of three different places of the pool
  pub drawn_here : 0 < length pool → (t : Triple) (m : Cd) → Memᴰ t (drawn pool trials) → fit_triple r pool t ≡ some m → Drawn pool trials t
  drawn_here p t m h f =
      let w = triples_in (length pool) trials start_word p h in
      record { here = h; a_in = w.a_in; b_in = w.b_in; c_in = w.c_in; different = places_differ r (places_of pool t) m f }

  of_run : (m : Cd) → WasFitted m → OfRun r limit pool trials m
  of_run m w = go (one_model (fit_triple r pool) (fit_again r limit) (near_count r limit) (drawn pool trials) (omega (arith, w.three, ap (count (fit_triple r pool) (fit_again r limit) (near_count r limit)) w.held)))
    where
      go : Found (fit_triple r pool) (fit_again r limit) (near_count r limit) (drawn pool trials) (best_of r limit pool trials) → OfRun r limit pool trials m
      go f =
          let q : f.model ≡ m = cc (f.held, w.held) in
          record {
            trial = f.trial;
            triple = drawn_here (omega (arith, w.tested)) f.trial f.made.first f.drawn f.made.fitted;
            made = subst (λ x. Made (fit_triple r pool) (fit_again r limit) (near_count r limit) f.trial x) q f.made;
          }

  exceeds : (m : Cd) → OfRun r limit pool trials m → Exceeds m
  exceeds m o = made_has (fit_triple r pool) (fit_again r limit) (near_count r limit) Exceeds (λ t k h. places_exceed r (places_of pool t) k h) (λ f k h. again_exceeds r limit f k h) o.made

  -- ---- the demand, of what a run answers and leaves
  module _ (old : List ℕ) (v : Result CdRun Refusal) (mask : List ℕ) where
    fitted_best : (o : Outcome) → pool_end r limit pool trials ≡ o → v ≡ end_answer r limit o → mask ≡ end_mask r limit o old
        → (k : ℕ) → v ≡ Ok (run.Fitted k) → FittedBest r limit pool trials k mask
    fitted_best (refused why) p a m k e = let z : ◌≡◌ {A = ℕ} 0 1 = cc in absurd (omega arith)
    fitted_best untested p a m k e = let z : ◌≡◌ {A = ℕ} 0 1 = cc in absurd (omega arith)
    fitted_best (fitted l) p a m k e =
        let w = was_fitted l p in
        let q : k ≡ near_count r limit l = cc in
        let on : take (rows.count r) mask ≡ near_marks r limit l = ap (take (rows.count r)) m ∙ take_at _ _ _ (near_length r limit l) in
        let o = of_run l w in
        record {
          tested = w.tested;
          plate = l;
          of_run = o;
          rows_on = on;
          counted = q ∙ ap ones (sym on);
          three = omega (arith, q, w.three);
          determinant = exceeds l o;
          none_more = λ t x d. omega (arith, q, ap (count (fit_triple r pool) (fit_again r limit) (near_count r limit)) w.held, none_better (fit_triple r pool) (fit_again r limit) (near_count r limit) d.triple.here x d.fits);
        }

    untested_all : (o : Outcome) → pool_end r limit pool trials ≡ o → v ≡ end_answer r limit o → mask ≡ end_mask r limit o old
        → (k : ℕ) → v ≡ Ok (run.Untested k) → AllOn r pool k mask
    untested_all (refused why) p a m k e = let z : ◌≡◌ {A = ℕ} 0 1 = cc in absurd (omega arith)
    untested_all (fitted l) p a m k e = let z : ◌≡◌ {A = ℕ} 0 1 = cc in absurd (omega arith)
    untested_all untested p a m k e =
        let q : k ≡ rows.count r = cc in
        record {
          few = was_untested p;
          all_on = ap (take (rows.count r)) m ∙ take_at _ _ _ (length-replicate (rows.count r) 1);
          counted = q;
        }

    nine_none : (o : Outcome) → pool_end r limit pool trials ≡ o → v ≡ end_answer r limit o → v ≡ Err refusal.Few → NoneHasThree r limit pool trials
    nine_none (fitted l) p a e = let z : ◌≡◌ {A = ℕ} 0 1 = cc in absurd (omega arith)
    nine_none untested p a e = let z : ◌≡◌ {A = ℕ} 0 1 = cc in absurd (omega arith)
    nine_none (refused why) p a e =
        let w = was_refused why p in
        record {
          tested = w.0;
          none_has = λ t x d. omega (arith, w.1, none_better (fit_triple r pool) (fit_again r limit) (near_count r limit) d.triple.here x d.fits);
        }

    -- what is demanded of a fitted run
    abbrev pub KeptFitted : Type 0
    KeptFitted = (k : ℕ) → v ≡ Ok (run.Fitted k) → FittedBest r limit pool trials k mask

    -- of an untested one
    abbrev pub KeptUntested : Type 0
    KeptUntested = (k : ℕ) → v ≡ Ok (run.Untested k) → AllOn r pool k mask

    -- and of number 9
    abbrev pub KeptNine : Type 0
    KeptNine = v ≡ Err refusal.Few → NoneHasThree r limit pool trials

    -- it follows from the answer and the mask, after any tests that do not give number 9
    pub kept : (a : Result Unit Refusal) → (a ≡ Err refusal.Few → ⊥) → v ≡ end_answer r limit (after_tests a (pool_end r limit pool trials))
        → mask ≡ end_mask r limit (after_tests a (pool_end r limit pool trials)) old → KeptFitted × (KeptUntested × KeptNine)
    kept (Ok tt) n e m = (fitted_best (pool_end r limit pool trials) refl e m, (untested_all (pool_end r limit pool trials) refl e m, nine_none (pool_end r limit pool trials) refl e))
    kept (Err why) n e m =
        (λ k h. let z : ◌≡◌ {A = ℕ} 0 1 = cc in absurd (omega arith), (λ k h. let z : ◌≡◌ {A = ℕ} 0 1 = cc in absurd (omega arith), λ h. let q : why ≡ refusal.Few = cc in absurd (n (ap Err q))))
