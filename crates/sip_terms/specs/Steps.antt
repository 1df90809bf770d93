-- What the inner steps give, which take each power from a list. Definitions only.
use Rattle.std.specs.Prelude.{List, ℕ, get_or, Float}
use Rattle.std.specs.Float.{nan}
use Rattle.floats.specs.Power.{power_of}
use Rattle.floats.specs.Rounded.{◌⊗◌}
use Rattle.cd_plate.specs.Filled.{filled}
use Rattle.sip_terms.specs.Terms.{term_at}

-- the powers 0 to 5
abbrev pub powers_of : Float → List Float
powers_of x = filled (power_of x) 6

-- u^p v^q for the term at a place
abbrev pub basis_in : List Float → List Float → ℕ → Float
basis_in up vp i = get_or up (term_at i).p nan ⊗ get_or vp (term_at i).q nan
