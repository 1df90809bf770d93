-- The hash of a quad, and the answer of the call. Each operation is rounded once, in the Rust's order. Definitions only.
use Rattle.answer.specs.declared.Refusal.{Refusal}
use Rattle.std.specs.Prelude.{Bool, cond, ◌||◌, ◌&&◌, List, ℕ, Float, Result, Ok, Err, Option, Some, None}
use Rattle.std.specs.Float.{binary64}
use Rattle.std.specs.Float.Ieee.{of_bits, add, sub, mul, div, lt, eq, le}
use Rattle.answer.specs.Answers.{number_of}
use Rattle.answer.specs.declared.Refusal.TheVariants as refusal
use Rattle.quad_stars.specs.declared.Star.{Star}
use Rattle.quad_stars.specs.declared.Four.{Four}
use Rattle.quad_stars.specs.Stars.{dist_sq, four_at, four_answer}
use Rattle.quad_normal.specs.declared.Quad.{Quad}

-- How far r lies along the spine from p to q, in parts of the squared spine.
unfoldable pub along : Star → Star → Star → Float → Float
along p q r scale =
    div binary64
    (add binary64
    (mul binary64 (sub binary64 r.x p.x) (sub binary64 q.x p.x))
    (mul binary64 (sub binary64 r.y p.y) (sub binary64 q.y p.y)))
    scale

-- How far r lies across it.
unfoldable pub across : Star → Star → Star → Float → Float
across p q r scale =
    div binary64
    (sub binary64
    (mul binary64 (sub binary64 r.y p.y) (sub binary64 q.x p.x))
    (mul binary64 (sub binary64 r.x p.x) (sub binary64 q.y p.y)))
    scale

-- C stands before D by x, then y; full ties keep their order.
unfoldable pub c_first : Float → Float → Float → Float → Bool
c_first cx cy dx dy = lt cx dx || (eq cx dx && le cy dy)

-- The quad of C's and D's hash numbers and the four places, C and D in order.
unfoldable pub hash_of : Float → Float → Float → Float → Four → Quad
hash_of cx cy dx dy f =
    cond (c_first cx cy dx dy)
    (record { h0 = cx; h1 = cy; h2 = dx; h3 = dy; a = f.a.at; b = f.b.at; c = f.c.at; d = f.d.at })
    (record { h0 = dx; h1 = dy; h2 = cx; h3 = cy; a = f.a.at; b = f.b.at; c = f.d.at; d = f.c.at })

-- 1e-30, the least squared spine that is divided by.
unfoldable pub least_scale : Float
least_scale = of_bits binary64 0x39b4_484b_feeb_c2a0

-- The hash of four stars whose spine is given, in parts of a scale, unless that is below the least.
unfoldable pub scaled_by : Float → Four → Option Quad
scaled_by scale f =
    cond (lt scale least_scale) None
    (Some
    (hash_of
    (along f.a f.b f.c scale)
    (across f.a f.b f.c scale)
    (along f.a f.b f.d scale)
    (across f.a f.b f.d scale)
    f))

-- The scale is the squared spine.
unfoldable pub normal_of : Four → Option Quad
normal_of f = scaled_by (dist_sq f.a f.b) f

-- A degenerate quad is number 8.
abbrev pub scaled_answer : Option Quad → Result Quad Refusal
scaled_answer (Some quad) = Ok quad
scaled_answer None = Err refusal.Degenerate

-- The answer of `normalize_quad_ordered` after its tests.
abbrev pub normal_after : Result Unit Refusal → Option Quad → Result Quad Refusal
normal_after (Ok tt) s = scaled_answer s
normal_after (Err why) s = Err why

-- The answer of `normalize_quad_ordered`: numbers 1, 2, 3, 4 and 8, then the quad.
unfoldable pub normal_answer : List Float → List Float → ℕ → ℕ → ℕ → ℕ → Result Quad Refusal
normal_answer xs ys a b c d = normal_after (four_answer xs ys a b c d) (normal_of (four_at xs ys a b c d))
