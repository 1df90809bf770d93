-- A row's line, told number by number. Assumes nothing.
use mathlib.Core.Path.{◌≡◌, refl, ◌∙◌}
use mathlib.Core.List.{List, ◌++◌, append-nil}
use Prim.Native.Nat.{ℕ, ◌+◌, ◌≤◌}
use native.Mathlib.Omega.{arith}
use lib.ListN.{length, set, drop, drop_of_length-le, length-append, length-drop}
use lib.Ieee.{Float}
use borrow.Author.Tests.{lt-ltb, le-ltb, eq-eqb, ne_eqb}
use Rattle.cd_plate.specs.Filled.{filled}
use Rattle.cd_plate.proofs.Filling.{Front, again, filled_length}
use Rattle.sip_terms.specs.Terms.{basis_of}
use Rattle.sip_terms.specs.Steps.{powers_of, basis_in}
use Rattle.sip_terms.proofs.Told.{filled_same}
use Rattle.sip_terms.proofs.Places.{basis_filled}
use Rattle.sip_sums.specs.declared.Offset.{Offset}
use Rattle.sip_sums.specs.Steps.{line_at}

module _ (o : Offset) (n : ℕ) (h : n ≤ 18) where
  in_basis : filled (basis_of o.u o.v) n ≡ filled (line_at n o) n
  in_basis = filled_same (basis_of o.u o.v) (line_at n o) n (λ i g. rw (lt-ltb i n g))

  at_du : o.du ≡ line_at n o n
  at_du = rw (le-ltb n n (omega arith), eq-eqb n n refl)

  at_dv : o.dv ≡ line_at n o (n + 1)
  at_dv = rw (le-ltb (n + 1) n (omega arith), ne_eqb (n + 1) n (λ e. omega arith))

  -- the basis in front, and the two numbers behind it
  pub line_put : (new old : List Float) → length old ≡ n + 2 → new ≡ filled (basis_in (powers_of o.u) (powers_of o.v)) n
      → set (set (new ++ drop n old) n o.du) (n + 1) o.dv ≡ filled (line_at n o) (n + 2)
  line_put new old e f =
      let b : new ≡ filled (line_at n o) n = f ∙ basis_filled o.u o.v n h ∙ in_basis in
      let s : Front (line_at n o) old (new ++ drop n old) n = record { is = rw b; long = rw (b, length-append, filled_length (line_at n o) n, length-drop) (omega arith) } in
      let t = again o.du s (omega arith) at_du in
      let r = again o.dv t (omega arith) at_dv in
      let a : n + 1 + 1 ≡ n + 2 = omega arith in
      r.is ∙ rw (a, drop_of_length-le old {i = n + 2} (omega arith), append-nil)
