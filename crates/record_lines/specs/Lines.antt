-- The lines of a record, and what it shows. Definitions only.
use Rattle.std.specs.Prelude.{Bool, true, false, List, [], ◌∷◌, ◌++◌, map, ℕ, Float}
use Rattle.std.specs.Float.Ieee.{to_bits}
use Rattle.std.specs.Float.{binary64}
use Rattle.text.specs.Lines.{float_line}
use Rattle.wcs.specs.declared.Wcs.{Wcs}
use Rattle.sip_terms.specs.declared.Sip.{Sip}

-- what a record shows: rows used and errors of a fit, its reference pixel and CD, its order, and one coefficient for each term of each axis
pub record Solution : Type 0 where
  pub fit : Sip
  pub wcs : Wcs
  pub order : ℕ
  pub a : List Float
  pub b : List Float

-- a solution with each of its coefficients changed
abbrev pub each_coefficient : (Float → Float) → Solution → Solution
each_coefficient change s = record { fit = s.fit; wcs = s.wcs; order = s.order; a = map change s.a; b = map change s.b }

-- the line of a float: the bits of every NaN are 7ff8000000000000
abbrev pub number_line : List ℕ → Float → List ℕ
number_line name x = float_line name (to_bits binary64 x)

-- a line before others, where it stands
abbrev pub with_line : Bool → List ℕ → List (List ℕ) → List (List ℕ)
with_line true line lines = line ∷ lines
with_line false line lines = lines

-- the text of lines, one after the other
unfoldable pub text_of : List (List ℕ) → List ℕ
text_of [] = []
text_of (line ∷ lines) = line ++ text_of lines
