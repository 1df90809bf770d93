-- The powers of all rows in two tables, and a polynomial's values by them. Each operation is rounded once; sums start at 0.0. Definitions only.
use Rattle.std.specs.Prelude.{◌≡◌, cond, List, ℕ, zero, suc, ◌*◌, eqb, length, get_or, Float}
use Rattle.std.specs.Float.{nan}
use Rattle.floats.specs.Power.{power_of}
use Rattle.rows.specs.Rows.{Rows, count}
use Rattle.floats.specs.Rounded.{◌⊕◌, ◌⊗◌}
use Rattle.cd_plate.specs.Plate.{nothing}
use Rattle.wcs.specs.declared.Wcs.{Wcs}
use Rattle.elimination_rows.specs.Matrix.{Matrix}
use Rattle.elimination_rows.specs.Holds.{Holds}
use Rattle.sip_terms.specs.declared.Term.{Term}
use Rattle.sip_terms.specs.Terms.{term_at, with_term}
use Rattle.sip_sums.specs.Field.{offset_at}

-- a table with the powers of x in column k
abbrev pub with_column : Float → ℕ → Matrix → Matrix
with_column x k m p c = cond (eqb c k) (power_of x p) (m p c)

-- the power p of the u of row k
abbrev pub powers_u : Rows → Wcs → Matrix
powers_u r w p k = power_of (offset_at r w k).u p

-- and of its v
abbrev pub powers_v : Rows → Wcs → Matrix
powers_v r w p k = power_of (offset_at r w k).v p

-- two tables that have the powers 0 to 5 of the rows, a line to an exponent
pub record Powers (r : Rows) (w : Wcs) (up vp : List Float) : Type 0 where
  pub long_u : length up ≡ 6 * count r
  pub long_v : length vp ≡ 6 * count r
  pub held_u : Holds up 6 (count r) (powers_u r w)
  pub held_v : Holds vp 6 (count r) (powers_v r w)

-- the sum at a place with c x y more
abbrev pub product_at : Float → List Float → List Float → List Float → ℕ → Float
product_at c x y s k = get_or s k nan ⊕ c ⊗ get_or x k nan ⊗ get_or y k nan

-- the sum at a place with a term more, whose powers stand in two tables
abbrev pub term_added : Float → Term → Matrix → Matrix → List Float → ℕ → Float
term_added c t up vp s k = with_term (get_or s k nan) c (up t.p k) (vp t.q k)

-- the first i terms at row k
unfoldable pub value_in : List Float → Matrix → Matrix → ℕ → ℕ → Float
value_in cs up vp zero k = nothing
value_in cs up vp (suc i) k = with_term (value_in cs up vp i k) (get_or cs i nan) (up (term_at i).p k) (vp (term_at i).q k)
