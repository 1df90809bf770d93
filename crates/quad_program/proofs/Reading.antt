-- Laws of the stars that are read: those that were read, before those that are left, come to the whole.
use mathlib.Core.Path.{◌≡◌, refl}
use mathlib.Core.List.{List, [], ◌∷◌, ◌++◌, append-nil}
use Prim.Native.Nat.{ℕ, zero, suc, ◌+◌, ◌-◌, ◌≤◌, ◌<◌}
use native.Mathlib.Numerals.{add-one}
use native.Mathlib.Omega.{arith}
use borrow.Author.Tests.{lt-ltb, le-ltb}
use lib.ListN.{length, set, take}
use lib.Seq.{append_snoc, take-suc-set}
use lib.Ieee.{Float}
use Rattle.std.proofs.Common.{Some, None}
use Rattle.quad_program.specs.declared.Star.{Star}
use Rattle.quad_program.specs.Form.{Sky, one_more_of, star_of, stars_from}

-- stars before others
abbrev pub before : List Float → List Float → Sky → Sky
before us vs (Sky.Shows xs ys) = Sky.Shows (us ++ xs) (vs ++ ys)
before us vs Sky.Wrong = Sky.Wrong

-- none before others
pub none_before : (sky : Sky) → before [] [] sky ≡ sky
none_before (Sky.Shows xs ys) = refl
none_before Sky.Wrong = refl

-- one star more before others
one_before : (us vs : List Float) (x y : Float) (sky : Sky) → before (us ++ (x ∷ [])) (vs ++ (y ∷ [])) sky ≡ before us vs (one_more_of x y sky)
one_before us vs x y (Sky.Shows xs ys) = rw (append_snoc us x xs, append_snoc vs y ys)
one_before us vs x y Sky.Wrong = refl

-- the line of a star is read
pub star_more : (s : List ℕ) (p n : ℕ) (a : Star) (xs ys : List Float) → p < length s → n < 14 → length xs ≡ 14 → length ys ≡ 14 → star_of s p ≡ Some a
    → before (take (n + 1) (set xs n a.x)) (take (n + 1) (set ys n a.y)) (stars_from (14 - (n + 1)) s a.next) ≡ before (take n xs) (take n ys) (stars_from (14 - n) s p)
unfolding stars_from
star_more s p n a xs ys hp hn hx hy e =
    let k : 14 - n ≡ suc (14 - suc n) = omega arith in
    rw (k, lt-ltb p (length s) hp, e, add-one n, take-suc-set xs n a.x (omega arith), take-suc-set ys n a.y (omega arith))
    (one_before (take n xs) (take n ys) a.x a.y (stars_from (14 - suc n) s a.next))

-- a line is left, and there is no room for a star
pub star_full : (s : List ℕ) (p n : ℕ) (us vs : List Float) (all : Sky) → p < length s → 14 ≤ n → before us vs (stars_from (14 - n) s p) ≡ all → Sky.Wrong ≡ all
unfolding stars_from
star_full s p n us vs all hp hn e =
    let k : 14 - n ≡ 0 = omega arith in
    rw (k, lt-ltb p (length s) hp) at e

-- a line is no star's
pub star_wrong : (s : List ℕ) (p n : ℕ) (us vs : List Float) (all : Sky) → p < length s → n < 14 → star_of s p ≡ None → before us vs (stars_from (14 - n) s p) ≡ all
    → Sky.Wrong ≡ all
unfolding stars_from
star_wrong s p n us vs all hp hn w e =
    let k : 14 - n ≡ suc (14 - suc n) = omega arith in
    rw (k, lt-ltb p (length s) hp, w) at e

-- at the end of the text no star is left
none_left : (s : List ℕ) (p room : ℕ) → length s ≤ p → stars_from room s p ≡ Sky.Shows [] []
unfolding stars_from
none_left s p zero h = rw (le-ltb p (length s) h)
none_left s p (suc room) h = rw (le-ltb p (length s) h)

-- the text is read to its end
pub star_end : (s : List ℕ) (p n : ℕ) (us vs : List Float) (all : Sky) → length s ≤ p → before us vs (stars_from (14 - n) s p) ≡ all → Sky.Shows us vs ≡ all
star_end s p n us vs all h e = rw (none_left s p (14 - n) h, append-nil us, append-nil vs) at e
