-- Of a run of trials, none that can be fitted has more rows than what is held. Assumes nothing.
use mathlib.Core.Path.{◌≡◌, refl, sym, ap, ◌∙◌, subst}
use mathlib.Core.List.{List, [], ◌∷◌, ◌++◌, Memᴰ}
use mathlib.Core.Option.{Option, some, none}
use mathlib.Core.Bool.{Bool, true, false}
use mathlib.Core.Logic.{◌⊎◌, inl, inr}
use Prim.Native.Nat.{ℕ, ◌≤◌, ◌<◌, max}
use native.Mathlib.Nat.{le_refl, le_trans}
use native.Mathlib.Omega.{arith}
use lib.Dec.{leb, ltb}
use borrow.Author.Tests.{ltb-true, ltb-false, leb-true}
use Rattle.draw.specs.Best as b
use Rattle.draw.specs.Best.{Made, Found, no_refit}

module _ {Model Trial : Type 0} (fit : Trial → Option Model) (refit : Model → Option Model) (agree : Model → ℕ) where
  abbrev count : Option Model → ℕ
  count = b.count fit refit agree

  abbrev improved : Model → Option Model → Model
  improved = b.improved fit refit agree

  abbrev keep_if : Bool → Option Model → Model → Option Model
  keep_if = b.keep_if fit refit agree

  abbrev keep : Option Model → Option Model → Option Model
  keep = b.keep fit refit agree

  abbrev step : Option Model → Trial → Option Model
  step = b.step fit refit agree

  abbrev run : Option Model → List Trial → Option Model
  run = b.run fit refit agree

  abbrev best : List Trial → Option Model
  best = b.best fit refit agree

  -- ---- one trial
  improved_more : (m : Model) (o : Option Model) → agree m ≤ agree (improved m o)
  unfolding b.improved
  improved_more m none = le_refl (agree m)
  improved_more m (some r) = go (leb (agree m) (agree r)) refl
    where
      go : (t : Bool) → leb (agree m) (agree r) ≡ t → agree m ≤ agree (b.or_refit fit refit agree t m r)
      go true e = leb-true _ _ e
      go false e = le_refl (agree m)

  improved_is : (m : Model) (o : Option Model) → (improved m o ≡ m) ⊎ (o ≡ some (improved m o))
  unfolding b.improved
  improved_is m none = inl refl
  improved_is m (some r) = go (leb (agree m) (agree r))
    where
      go : (t : Bool) → (b.or_refit fit refit agree t m r ≡ m) ⊎ (some r ≡ some (b.or_refit fit refit agree t m r))
      go true = inr refl
      go false = inl refl

  keep_if_covers : (t : Bool) (held : Option Model) (m : Model) → ltb (count held) (agree m) ≡ t
      → (count held ≤ count (keep_if t held m)) × (agree m ≤ count (keep_if t held m))
  unfolding b.keep_if
  keep_if_covers true held m e = omega (arith, ltb-true (count held) (agree m) e, improved_more m (refit m))
  keep_if_covers false held m e = omega (arith, ltb-false (count held) (agree m) e)

  keep_more : (held o : Option Model) → count held ≤ count (keep held o)
  unfolding b.keep
  keep_more held none = le_refl (count held)
  keep_more held (some m) = (keep_if_covers _ held m refl).0

  keep_covers : (held o : Option Model) (m : Model) → o ≡ some m → agree m ≤ count (keep held o)
  unfolding b.keep
  keep_covers held o m e = rw e (keep_if_covers _ held m refl).1

  step_from : (held : Option Model) (t : Trial) → (step held t ≡ held) ⊎ ((m : Model) × Made fit refit agree t m × (step held t ≡ some m))
  unfolding b.keep b.keep_if
  step_from held t = go (fit t) refl
    where
      kept : (m : Model) (x : Bool) → fit t ≡ some m → (keep_if x held m ≡ held) ⊎ ((r : Model) × Made fit refit agree t r × (keep_if x held m ≡ some r))
      kept m false e = inl refl
      kept m true e = inr (improved m (refit m), record { first = m; fitted = e; final = improved_is m (refit m) }, refl)

      go : (o : Option Model) → fit t ≡ o → (keep held o ≡ held) ⊎ ((m : Model) × Made fit refit agree t m × (keep held o ≡ some m))
      go none e = inl refl
      go (some m) e = kept m (ltb (count held) (agree m)) e

  -- ---- a run of trials
  pub run_append : (ts us : List Trial) (held : Option Model) → run held (ts ++ us) ≡ run (run held ts) us
  unfolding b.run
  run_append [] us held = refl
  run_append (t ∷ ts) us held = run_append ts us (step held t)

  -- one more trial, at the end
  pub run_snoc : (ts : List Trial) (t : Trial) (held : Option Model) → run held (ts ++ (t ∷ [])) ≡ step (run held ts) t
  unfolding b.run
  run_snoc ts t held = run_append ts (t ∷ []) held

  pub run_more : (ts : List Trial) (held : Option Model) → count held ≤ count (run held ts)
  unfolding b.run
  run_more [] held = le_refl (count held)
  run_more (t ∷ ts) held = le_trans (keep_more held (fit t)) (run_more ts (step held t))

  pub run_covers : {t : Trial} {ts : List Trial} → Memᴰ t ts → (held : Option Model) (m : Model) → fit t ≡ some m → agree m ≤ count (run held ts)
  unfolding b.run
  run_covers (Memᴰ.head {x = x} {xs = xs} e) held m f =
      le_trans (keep_covers held (fit x) m (ap fit (sym e) ∙ f)) (run_more xs (step held x))
  run_covers (Memᴰ.tail {x = x} {xs = xs} h) held m f = run_covers h (step held x) m f

  run_from : (ts : List Trial) (held : Option Model) → (run held ts ≡ held) ⊎ Found fit refit agree ts (run held ts)
  unfolding b.run
  run_from [] held = inl refl
  run_from (t ∷ ts) held = go (step_from held t) (run_from ts (step held t))
    where
      go : (step held t ≡ held) ⊎ ((m : Model) × Made fit refit agree t m × (step held t ≡ some m))
          → (run (step held t) ts ≡ step held t) ⊎ Found fit refit agree ts (run (step held t) ts)
          → (run (step held t) ts ≡ held) ⊎ Found fit refit agree (t ∷ ts) (run (step held t) ts)
      go s (inr f) =
          inr (record { trial = f.trial; drawn = Memᴰ.tail f.drawn; model = f.model; made = f.made; held = f.held })
      go (inl e) (inl r) = inl (r ∙ e)
      go (inr s) (inl r) =
          inr (record { trial = t; drawn = Memᴰ.head refl; model = s.0; made = s.1; held = r ∙ s.2 })

  -- ---- a whole run, which holds nothing at first
  -- of all trials, none that can be fitted has more rows
  pub none_better : {t : Trial} {ts : List Trial} → Memᴰ t ts → (m : Model) → fit t ≡ some m → agree m ≤ count (best ts)
  none_better h m f = run_covers h none m f

  -- where a row agrees with what is held, it is one model of the run
  pub one_model : (ts : List Trial) → 0 < count (best ts) → Found fit refit agree ts (best ts)
  one_model ts h = go (run_from ts none)
    where
      go : (best ts ≡ none) ⊎ Found fit refit agree ts (best ts) → Found fit refit agree ts (best ts)
      go (inr f) = f
      go (inl e) = absurd (omega (arith, h, ap count e))

  -- where fewer than three rows agree, no trial that can be fitted has three
  pub none_has_three : {t : Trial} {ts : List Trial} → count (best ts) < 3 → Memᴰ t ts → (m : Model) → fit t ≡ some m → agree m < 3
  none_has_three l h m f = omega (arith, none_better h m f)

  -- more trials: no fewer rows
  pub more_trials : (ts us : List Trial) → count (best ts) ≤ count (best (ts ++ us))
  more_trials ts us = rw run_append (run_more us (best ts))

  -- a property of every model that a fit or a refit gives is one of the model found
  pub made_has : (P : Model → Type 0) → ((t : Trial) (m : Model) → fit t ≡ some m → P m) → ((f m : Model) → refit f ≡ some m → P m)
      → {t : Trial} {m : Model} → Made fit refit agree t m → P m
  made_has P pf pr {t} {m} d = go d.final
    where
      go : (m ≡ d.first) ⊎ (refit d.first ≡ some m) → P m
      go (inl e) = subst P (sym e) (pf t d.first d.fitted)
      go (inr e) = pr d.first m e

-- without a refit, the number of what is held is the greater of its own and the trial's
module _ {Model Trial : Type 0} (fit : Trial → Option Model) (agree : Model → ℕ) where
  abbrev counted : Option Model → ℕ
  counted = b.count fit no_refit agree

  pub keep_greater : (held o : Option Model) → counted (b.keep fit no_refit agree held o) ≡ max (counted held) (counted o)
  unfolding b.keep b.keep_if b.improved
  keep_greater held none = omega arith
  keep_greater held (some m) = go (ltb (counted held) (agree m)) refl
    where
      go : (t : Bool) → ltb (counted held) (agree m) ≡ t → counted (b.keep_if fit no_refit agree t held m) ≡ max (counted held) (agree m)
      go true e = omega (arith, ltb-true (counted held) (agree m) e)
      go false e = omega (arith, ltb-false (counted held) (agree m) e)
