-- Stars, the four stars of a quad, and what the tests of star lists and of places in them come to. Each operation is rounded once, in the Rust's order. Definitions only.
use Rattle.answer.specs.declared.Refusal.{Refusal}
use Rattle.std.specs.Prelude.{Bool, cond, not, ◌||◌, ◌&&◌, List, ℕ, ltb, eqb, length, get_or, Float, Result, Ok, Err}
use Rattle.std.specs.Float.{nan, binary64}
use Rattle.std.specs.Float.Ieee.{add, sub, mul}
use Rattle.answer.specs.Answers.{first}
use Rattle.domain.specs.Domain.{is_position, every}
use Rattle.answer.specs.declared.Refusal.TheVariants as refusal
use Rattle.quad_stars.specs.declared.Star.{Star}
use Rattle.quad_stars.specs.declared.Four.{Four}
use Rattle.quad_stars.specs.declared.Places.{Places}

-- The star at a place of the lists; past an end its number is NaN.
unfoldable pub star_at : List Float → List Float → ℕ → Star
star_at xs ys i = record { x = get_or xs i nan; y = get_or ys i nan; at = i }

-- Four stars, the spine first.
abbrev pub four : Star → Star → Star → Star → Four
four p q r s = record { a = p; b = q; c = r; d = s }

-- The stars at four places of the lists.
unfoldable pub four_at : List Float → List Float → ℕ → ℕ → ℕ → ℕ → Four
four_at xs ys a b c d = four (star_at xs ys a) (star_at xs ys b) (star_at xs ys c) (star_at xs ys d)

-- A number times itself.
abbrev pub square : Float → Float
square v = mul binary64 v v

-- The squared distance from p to q.
unfoldable pub dist_sq : Star → Star → Float
dist_sq p q = add binary64 (square (sub binary64 q.x p.x)) (square (sub binary64 q.y p.y))

-- The places of four stars.
unfoldable pub places_of : Four → Places
places_of f = record { a = f.a.at; b = f.b.at; c = f.c.at; d = f.d.at }

-- The greatest number of stars in a list.
abbrev pub most_stars : ℕ
most_stars = 100

-- What the tests of two star lists come to: number 1, 2 or 3, or done.
unfoldable pub stars_answer : List Float → List Float → Result Unit Refusal
stars_answer xs ys =
    cond (ltb most_stars (length xs) || ltb most_stars (length ys)) (Err refusal.Count)
    (cond (not (eqb (length xs) (length ys))) (Err refusal.Lengths)
    (cond (not (every is_position xs && every is_position ys)) (Err refusal.Value)
    (Ok tt)))

-- What the test of four places in a list of n comes to: number 4, or done.
unfoldable pub places_answer : ℕ → ℕ → ℕ → ℕ → ℕ → Result Unit Refusal
places_answer n a b c d = cond (ltb a n && (ltb b n && (ltb c n && ltb d n))) (Ok tt) (Err refusal.Place)

-- What the tests of two star lists and four places in them come to.
unfoldable pub four_answer : List Float → List Float → ℕ → ℕ → ℕ → ℕ → Result Unit Refusal
four_answer xs ys a b c d = first (stars_answer xs ys) (places_answer (length xs) a b c d)

-- Both numbers of a star are positions.
unfoldable pub is_star : Star → Bool
is_star p = is_position p.x && is_position p.y
