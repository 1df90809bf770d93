-- What the calls ask of rows with a mask. Definitions only.
use Rattle.std.specs.Prelude.{Bool, ◌&&◌, List, ℕ, leb, eqb, length, get_or}
use Rattle.domain.specs.Domain.{is_mask_byte, every}
use Rattle.rows.specs.Rows.{Rows, count, few_rows, even_rows, position_rows}

-- a row is on where its byte is 1
abbrev pub is_on : List ℕ → ℕ → Bool
is_on mask k = eqb (get_or mask k 0) 1

-- no list has more than 100 places
abbrev pub few_masked : Rows → List ℕ → Bool
few_masked r mask = few_rows r && leb (length mask) 100

-- the lists are of one length
abbrev pub even_masked : Rows → List ℕ → Bool
even_masked r mask = even_rows r && eqb (length mask) (count r)

-- every number is a position, and every byte 0 or 1
abbrev pub good_masked : Rows → List ℕ → Bool
good_masked r mask = position_rows r && every is_mask_byte mask
