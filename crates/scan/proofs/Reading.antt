-- Laws of bytes and lines that are read: each way on and each way out of the loops.
use mathlib.Core.Path.{◌≡◌}
use mathlib.Core.Bool.{Bool, true, false, cond}
use mathlib.Core.List.{List, [], ◌∷◌}
use Prim.Native.Nat.{ℕ, suc, ◌+◌, ◌≤◌, ◌<◌}
use native.Mathlib.Numerals.{add-one}
use native.Mathlib.Omega.{arith}
use borrow.Author.Tests.{eq-eqb, ne_eqb}
use lib.Dec.{eqb}
use lib.ListN.{length, get_or, drop, drop_of_length-le}
use lib.Seq.{drop-cons}
use Rattle.std.proofs.Common.{Ok, Err}
use Rattle.scan.specs.Read.{wrong, read_bytes, line_end}

-- ---- these very bytes

-- a byte is the text's
pub bytes_more : (s t : List ℕ) (p i : ℕ) → p < length s → i < length t → get_or s p 0 ≡ get_or t i 0
    → read_bytes (drop (i + 1) t) (drop (p + 1) s) (p + 1) ≡ read_bytes (drop i t) (drop p s) p
unfolding read_bytes
bytes_more s t p i hp hi e =
    rw (drop-cons s p 0 hp, drop-cons t i 0 hi, eq-eqb (get_or s p 0) (get_or t i 0) e, add-one p, add-one i)

-- the text ends too early
pub bytes_short : (s t : List ℕ) (p i : ℕ) → length s ≤ p → i < length t → Err (wrong p) ≡ read_bytes (drop i t) (drop p s) p
unfolding read_bytes
bytes_short s t p i hp hi = rw (drop_of_length-le s {i = p} hp, drop-cons t i 0 hi)

-- a byte is another
pub bytes_wrong : (s t : List ℕ) (p i : ℕ) → p < length s → i < length t → (get_or s p 0 ≡ get_or t i 0 → ⊥) → Err (wrong p) ≡ read_bytes (drop i t) (drop p s) p
unfolding read_bytes
bytes_wrong s t p i hp hi e =
    rw (drop-cons s p 0 hp, drop-cons t i 0 hi, ne_eqb (get_or s p 0) (get_or t i 0) e)

-- all bytes are read
pub bytes_end : (t l : List ℕ) (p i : ℕ) → length t ≤ i → Ok p ≡ read_bytes (drop i t) l p
unfolding read_bytes
bytes_end t l p i h = rw (drop_of_length-le t {i = i} h)

-- ---- the end of a line

-- a byte is no newline
pub line_more : (s : List ℕ) (p : ℕ) → p < length s → (get_or s p 0 ≡ 10 → ⊥) → line_end (drop (p + 1) s) (p + 1) ≡ line_end (drop p s) p
unfolding line_end
line_more s p hp e = rw (drop-cons s p 0 hp, ne_eqb (get_or s p 0) 10 e, add-one p)

-- a byte is a newline
pub line_found : (s : List ℕ) (p : ℕ) → p < length s → get_or s p 0 ≡ 10 → p ≡ line_end (drop p s) p
unfolding line_end
line_found s p hp e = rw (drop-cons s p 0 hp, eq-eqb (get_or s p 0) 10 e)

-- the text ends
pub line_none : (s : List ℕ) (p : ℕ) → length s ≤ p → p ≡ line_end (drop p s) p
unfolding line_end
line_none s p hp = rw (drop_of_length-le s {i = p} hp)

-- a line ends between p and the end of what is left
pub line_within : (l : List ℕ) (p : ℕ) → (p ≤ line_end l p) × (line_end l p ≤ p + length l)
unfolding line_end
line_within [] p = (omega arith, omega arith)
line_within (c ∷ cs) p = go (eqb c 10) (line_within cs (p + 1)) where
  go : (b : Bool) → (p + 1 ≤ line_end cs (p + 1)) × (line_end cs (p + 1) ≤ p + 1 + length cs)
      → (p ≤ cond b p (line_end cs (p + 1))) × (cond b p (line_end cs (p + 1)) ≤ p + suc (length cs))
  go true w = (omega arith, omega arith)
  go false w = (omega (arith, w.0), omega (arith, w.1))
