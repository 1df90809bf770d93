-- The sums of a fit as a list. Definitions only.
use Rattle.std.specs.Prelude.{List, [], ◌∷◌, Float}
use Rattle.sip_terms.specs.declared.Sip.{Sip}

-- the three sums, as they are lent
abbrev pub sums_of : Sip → List Float
sums_of s = s.linear_rms ∷ s.rms ∷ s.wrms ∷ []
