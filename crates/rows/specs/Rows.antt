-- Rows, and what the calls ask of their lists. Definitions only.
use Rattle.answer.specs.declared.Refusal.{Refusal}
use Rattle.std.specs.Prelude.{Bool, cond, not, ◌&&◌, List, ℕ, leb, eqb, length, get_or, Float, Result, Ok, Err}
use Rattle.std.specs.Float.{nan}
use Rattle.domain.specs.Domain.{is_position, every}
use Rattle.answer.specs.declared.Refusal.TheVariants as refusal
use Rattle.rows.specs.declared.Row.{Row}

-- four lists: the pixels, and the points of the tangent plane
pub record Rows : Type 0 where
  pub px : List Float
  pub py : List Float
  pub xi : List Float
  pub eta : List Float

-- rows by their four lists, in the order of the calls
abbrev pub rows : List Float → List Float → List Float → List Float → Rows
rows px py xi eta = record { px = px; py = py; xi = xi; eta = eta }

-- how many rows there are
abbrev pub count : Rows → ℕ
count r = length r.px

-- the row at a place
abbrev pub row_at : Rows → ℕ → Row
row_at r i = record { px = get_or r.px i nan; py = get_or r.py i nan; xi = get_or r.xi i nan; eta = get_or r.eta i nan }

-- no list has more than 100 rows
abbrev pub few_rows : Rows → Bool
few_rows r = (leb (length r.px) 100 && leb (length r.py) 100) && (leb (length r.xi) 100 && leb (length r.eta) 100)

-- the lists are of one length
abbrev pub even_rows : Rows → Bool
even_rows r = eqb (length r.py) (count r) && (eqb (length r.xi) (count r) && eqb (length r.eta) (count r))

-- every number is a position
unfoldable pub position_rows : Rows → Bool
position_rows r = (every is_position r.px && every is_position r.py) && (every is_position r.xi && every is_position r.eta)

-- what the tests of the rows come to: number 1, 2 or 3, or done.
unfoldable pub rows_answer : Rows → Result Unit Refusal
rows_answer r =
    cond (not (few_rows r)) (Err refusal.Count)
    (cond (not (even_rows r)) (Err refusal.Lengths)
    (cond (not (position_rows r)) (Err refusal.Value)
    (Ok tt)))
