-- Reading a text that was written gives the place after it.
use mathlib.Core.Path.{◌≡◌, refl, sym, ap, ◌∙◌}
use mathlib.Core.List.{List, [], ◌∷◌, ◌++◌}
use Prim.Native.Nat.{ℕ, suc, ◌+◌}
use native.Mathlib.Nat.{add-zero}
use native.Mathlib.Omega.{arith}
use borrow.Author.Tests.{eq-eqb}
use lib.ListN.{length}
use Rattle.std.proofs.Common.{Ok}
use Rattle.scan.specs.Read.{read_bytes}

-- a text is read where it stands
pub text_read : (t ys : List ℕ) (p : ℕ) → read_bytes t (t ++ ys) p ≡ Ok (p + length t)
unfolding read_bytes
text_read [] ys p = ap Ok (sym (add-zero p))
text_read (c ∷ t) ys p =
    let e : p + 1 + length t ≡ p + suc (length t) = omega arith in
    rw (eq-eqb c c refl) (text_read t ys (p + 1) ∙ ap Ok e)
