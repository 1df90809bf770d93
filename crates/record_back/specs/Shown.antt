-- What a record shows of a solution. Definitions only.
use Rattle.std.specs.Prelude.{List, [], ◌∷◌, ℕ, T, Float}
use Rattle.std.specs.Float.{binary64}
use Rattle.std.specs.Float.Ieee.{fits}
use Rattle.wcs.specs.declared.Wcs.{Wcs}
use Rattle.sip_terms.specs.declared.Sip.{Sip}
use Rattle.sip_terms.specs.Terms.{kept_of}
use Rattle.record_lines.specs.Lines.{Solution, each_coefficient}

-- every number but the dropped coefficients, which are 0.0
abbrev pub shown_of : Solution → Solution
shown_of s = each_coefficient kept_of s

-- a float that is an f64, as each float of the code is
abbrev pub IsF64 : Float → Type 0
IsF64 x = T (fits binary64 x)

-- each of a list
abbrev pub AreF64 : List Float → Type 0
AreF64 [] = Unit {0}
AreF64 (x ∷ xs) = IsF64 x × AreF64 xs

-- each of the errors of a fit
pub record FitF64 (f : Sip) : Type 0 where
  pub linear : IsF64 f.linear_rms
  pub plain : IsF64 f.rms
  pub weighted : IsF64 f.wrms

-- each of a WCS
pub record WcsF64 (w : Wcs) : Type 0 where
  pub x : IsF64 w.crpix1
  pub y : IsF64 w.crpix2
  pub xx : IsF64 w.cd1_1
  pub xy : IsF64 w.cd1_2
  pub yx : IsF64 w.cd2_1
  pub yy : IsF64 w.cd2_2

-- each of a solution
pub record SolutionF64 (s : Solution) : Type 0 where
  pub of_fit : FitF64 s.fit
  pub of_wcs : WcsF64 s.wcs
  pub of_a : AreF64 s.a
  pub of_b : AreF64 s.b

-- the bytes of the longest record: 100 rows, order 5, every coefficient kept
abbrev pub most_bytes : ℕ
most_bytes = 1065
