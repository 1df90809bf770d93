-- Twelve sums that are the nine of each axis, six of them shared. Definitions only.
use Rattle.std.specs.Prelude.{◌≡◌}
use Rattle.cd_sums.specs.declared.Sums.{Sums}
use Rattle.cd_sums.specs.Sums.{Nine}

-- those of xi
abbrev pub xi_part : Sums → Nine
xi_part s = record { uu = s.uu; uv = s.uv; u = s.u; vv = s.vv; v = s.v; one = s.one; ub = s.ub; vb = s.vb; b = s.b }

-- those of eta
abbrev pub eta_part : Sums → Nine
eta_part s = record { uu = s.uu; uv = s.uv; u = s.u; vv = s.vv; v = s.v; one = s.one; ub = s.uc; vb = s.vc; b = s.c }

-- the twelve are these nine of xi and these nine of eta
pub record Both (s : Sums) (xi eta : Nine) : Type 0 where
  pub of_xi : xi_part s ≡ xi
  pub of_eta : eta_part s ≡ eta
