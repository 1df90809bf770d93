-- Which texts are in form, and what they say: each thing is read from a place of the text on. Definitions only.
use Rattle.std.specs.Prelude.{cond, List, [], ◌∷◌, ℕ, zero, suc, ltb, length, take, Float, Option, Some, None, Ok, Err}
use Rattle.std.specs.Float.{binary64}
use Rattle.std.specs.Float.Ieee.{of_bits}
use Rattle.scan_digits.specs.Read.{Number}
use Rattle.scan_fields.specs.Fields.{hex_field, decimal_field}
use Rattle.quad_program.specs.declared.Star.{Star}
use Rattle.quad_program.specs.declared.Input.{Input}

-- the name of the first line, "k="
abbrev pub k_name : List ℕ
k_name = 107 ∷ 61 ∷ []

-- the name of the second line, "min_spine_sq="
abbrev pub least_name : List ℕ
least_name = 109 ∷ 105 ∷ 110 ∷ 95 ∷ 115 ∷ 112 ∷ 105 ∷ 110 ∷ 101 ∷ 95 ∷ 115 ∷ 113 ∷ 61 ∷ []

-- the name of each further line, "star="
abbrev pub star_name : List ℕ
star_name = 115 ∷ 116 ∷ 97 ∷ 114 ∷ 61 ∷ []

-- a comma
abbrev pub comma : List ℕ
comma = 44 ∷ []

-- a newline
abbrev pub newline : List ℕ
newline = 10 ∷ []

-- a star whose x is known, with its y
abbrev pub star_with : ℕ → Number → Option Star
star_with x (Ok (y, p)) = Some (record { x = of_bits binary64 x; y = of_bits binary64 y; next = p })
star_with x (Err w) = None

-- a star whose x is read, and its y after it, to the end of the line
abbrev pub star_after : List ℕ → Number → Option Star
star_after s (Ok (x, p)) = star_with x (hex_field [] newline s p)
star_after s (Err w) = None

-- the star of the line that starts at p
unfoldable pub star_of : List ℕ → ℕ → Option Star
star_of s p = star_after s (hex_field star_name comma s p)

-- what the lines of the stars say: the x and the y of each, or that a line is not in form
pub data Sky : Type 0 where
  Shows : List Float → List Float → Sky
  Wrong : Sky

-- one star before others
abbrev pub one_more_of : Float → Float → Sky → Sky
one_more_of x y (Sky.Shows xs ys) = Sky.Shows (x ∷ xs) (y ∷ ys)
one_more_of x y Sky.Wrong = Sky.Wrong

-- a star and those of the lines after it
abbrev pub star_then : Option Star → (ℕ → Sky) → Sky
star_then (Some a) others = one_more_of a.x a.y (others a.next)
star_then None others = Sky.Wrong

-- the stars of the lines from p to the end of the text, at most so many
unfoldable pub stars_from : ℕ → List ℕ → ℕ → Sky
stars_from zero s p = cond (ltb p (length s)) Sky.Wrong (Sky.Shows [] [])
stars_from (suc room) s p =
    cond (ltb p (length s)) (star_then (star_of s p) (stars_from room s)) (Sky.Shows [] [])

-- what a text says: k, held at 2 ^ 32, the least squared spine, and the x and the y of each star; or that it is not in form
pub data Form : Type 0 where
  Says : ℕ → Float → List Float → List Float → Form
  Wrong : Form

-- a text whose k and least squared spine are known, with its stars
abbrev pub with_stars : ℕ → Float → Sky → Form
with_stars k least (Sky.Shows xs ys) = Form.Says k least xs ys
with_stars k least Sky.Wrong = Form.Wrong

-- a text whose k is known, with the line of the least squared spine and at most 14 stars after it
abbrev pub after_least : List ℕ → ℕ → Number → Form
after_least s k (Ok (bits, p)) = with_stars k (of_bits binary64 bits) (stars_from 14 s p)
after_least s k (Err w) = Form.Wrong

-- a text with its first line read
abbrev pub after_k : List ℕ → Number → Form
after_k s (Ok (k, p)) = after_least s k (hex_field least_name newline s p)
after_k s (Err w) = Form.Wrong

-- what a text of at most 1,024 bytes says; a longer one is not in form
unfoldable pub parsed : List ℕ → Form
parsed s = cond (ltb 1024 (length s)) Form.Wrong (after_k s (decimal_field k_name newline s 0))

-- what the answer of `read_stars` says, with the two lists that it filled
abbrev pub sky_in : Option ℕ → List Float → List Float → Sky
sky_in (Some n) xs ys = Sky.Shows (take n xs) (take n ys)
sky_in None xs ys = Sky.Wrong

-- how many stars it counted
abbrev pub star_count : Option ℕ → ℕ
star_count (Some n) = n
star_count None = 0

-- what the answer of `parse` says, with the two lists that it filled
abbrev pub form_in : Option Input → List Float → List Float → Form
form_in (Some a) xs ys = Form.Says a.k a.least (take a.stars xs) (take a.stars ys)
form_in None xs ys = Form.Wrong

-- how many stars it counted
abbrev pub parsed_stars : Option Input → ℕ
parsed_stars (Some a) = a.stars
parsed_stars None = 0
