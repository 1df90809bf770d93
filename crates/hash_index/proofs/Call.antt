-- The tests of the input, and the answer. Assumes nothing.
use Rattle.std.specs.Prelude.{Ok, Err}
use mathlib.Core.Path.{◌≡◌, refl, ◌∙◌}
use mathlib.Core.Bool.{Bool, true, false, ◌&&◌, ◌||◌, not}
use mathlib.Core.List.{List}
use Prim.Native.Nat.{ℕ, ◌+◌, ◌*◌, ◌/◌, ◌%◌, ◌≤◌, ◌<◌}
use native.Mathlib.Nat.{zero-add}
use native.Mathlib.Omega.{arith}
use borrow.Author.Tests.{lt-ltb, le-ltb, ltb-true, ltb-false, eqb-true, not-false}
use lib.Dec.{ltb, eqb}
use lib.ListN.{length, get_or, set}
use lib.Seq.{sets, sets-eq, get_or-set_same, get_or-set_other}
use Rattle.answer.specs.declared.Refusal.TheVariants as refusal
use Rattle.answer.proofs.Passed.{passed, neither}
use Rattle.hash_index.specs.Matches.{too_many, whole, input_answer, room_answer, lent_after_matches}
use Rattle.hash_index.specs.Steps.{Counted, Taken}

both_true : (a b : Bool) → (a && b) ≡ true → (a ≡ true) × (b ≡ true)
both_true true b h = (refl, h)
both_true false b h = let z : ◌≡◌ {A = ℕ} 0 1 = cc in absurd (omega arith)

-- what lengths are like that pass the tests
pub taken : (places hashes catalogue others : ℕ) → input_answer places hashes catalogue others ≡ Ok tt → Taken places hashes catalogue others
unfolding input_answer
taken places hashes catalogue others h =
    let a = passed (too_many places || (too_many hashes || (too_many catalogue || too_many others))) refusal.Count _ h in
    let b = passed (not (whole places hashes && whole catalogue others)) refusal.Lengths (Ok tt) a.1 in
    let p = neither (too_many places) (too_many hashes || (too_many catalogue || too_many others)) a.0 in
    let q = neither (too_many hashes) (too_many catalogue || too_many others) p.1 in
    let r = neither (too_many catalogue) (too_many others) q.1 in
    let w = both_true (whole places hashes) (whole catalogue others) (not-false _ b.0) in
    let u = both_true (eqb places hashes) (eqb (places % 4) 0) w.0 in
    let v = both_true (eqb catalogue others) (eqb (catalogue % 4) 0) w.1 in record {
      few = ltb-false 12000 (places / 4) p.0;
      same = eqb-true places hashes u.0;
      fours = eqb-true (places % 4) 0 u.1;
      few_others = ltb-false 12000 (catalogue / 4) r.0;
      same_others = eqb-true catalogue others v.0;
      fours_others = eqb-true (catalogue % 4) 0 v.1;
    }

-- the count of one image quad more is stored
module _ (near : ℕ → List ℕ) where
  pub counted_none : (counts : List ℕ) → Counted near 0 counts
  counted_none counts k h = absurd (omega arith)

  pub counted_more : (i : ℕ) (counts : List ℕ) (n : ℕ) → i < length counts → n ≡ length (near i) → Counted near i counts → Counted near (i + 1) (set counts i n)
  counted_more i counts n h e l k s = go (ltb k i) (ltb-true k i) (ltb-false k i)
    where
      go : (t : Bool) → (t ≡ true → k < i) → (t ≡ false → i ≤ k) → get_or (set counts i n) k 0 ≡ length (near k)
      go true p q = let p' = p refl in get_or-set_other counts i k n 0 (λ r. omega arith) ∙ l k p'
      go false p q =
          let q' = q refl in
          let d : k ≡ i = omega arith in rw d (get_or-set_same counts i n 0 h ∙ e)

-- no room for eight places each
pub no_room : (total n room : ℕ) → n ≡ 8 * total → room < 8 * total → Err refusal.Room ≡ room_answer n room
unfolding room_answer
no_room total n room e h = rw (e, lt-ltb room (8 * total) h)

has_room : (total n room : ℕ) → n ≡ 8 * total → 8 * total ≤ room → Ok total ≡ room_answer n room
unfolding room_answer
has_room total n room e h =
    let d : 8 * total / 8 ≡ total = omega arith in rw (e, le-ltb room (8 * total) h, d)

-- all are written
pub done : (total : ℕ) (all old new : List ℕ) → length all ≡ 8 * total → 8 * total ≤ length old → new ≡ sets old 0 all
    → (Ok total ≡ room_answer (length all) (length old)) × (new ≡ lent_after_matches (Ok total) all old)
done total all old new e h f = (has_room total (length all) (length old) e h, f ∙ sets-eq all old 0 (omega arith) ∙ rw (zero-add (length all)))
