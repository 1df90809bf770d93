-- What is printed: lines of text for an answer and its quads. Definitions only.
use Rattle.answer.specs.declared.Refusal.{Refusal}
use Rattle.std.specs.Prelude.{List, [], ◌∷◌, ◌++◌, ℕ, zero, suc, get_or, drop, Float, Result, Ok, Err}
use Rattle.std.specs.Float.{nan}
use Rattle.digits.specs.Digits.{hex_from, decimal_of}
use Rattle.text.specs.Lines.{decimal_line}
use Rattle.quad_key.specs.declared.Hash.{Hash}
use Rattle.quad_key.specs.Key.{key_of}
use Rattle.quad_program.specs.Form.{comma, newline}

-- the name "status="
abbrev pub status_name : List ℕ
status_name = 115 ∷ 116 ∷ 97 ∷ 116 ∷ 117 ∷ 115 ∷ 61 ∷ []

-- the name "quads="
abbrev pub quads_name : List ℕ
quads_name = 113 ∷ 117 ∷ 97 ∷ 100 ∷ 115 ∷ 61 ∷ []

-- the name "quad="
abbrev pub quad_name : List ℕ
quad_name = 113 ∷ 117 ∷ 97 ∷ 100 ∷ 61 ∷ []

-- the name "key="
abbrev pub key_name : List ℕ
key_name = 107 ∷ 101 ∷ 121 ∷ 61 ∷ []

-- a number in decimal after a text
unfoldable pub numbered : List ℕ → ℕ → List ℕ
numbered t n = t ++ decimal_of n

-- the line of a quad's four places
unfoldable pub places_line : ℕ → ℕ → ℕ → ℕ → List ℕ
places_line a b c d = numbered quad_name a ++ (numbered comma b ++ (numbered comma c ++ decimal_line comma d))

-- the line of a quad's key
unfoldable pub key_line : ℕ → List ℕ
key_line key = key_name ++ (hex_from 16 key ++ newline)

-- the hash whose four numbers stand first in a list
abbrev pub hash_of : List Float → Hash
hash_of hs = record { h0 = get_or hs 0 nan; h1 = get_or hs 1 nan; h2 = get_or hs 2 nan; h3 = get_or hs 3 nan }

-- the two lines of the quad whose four places and four hash numbers stand first in two lists
unfoldable pub quad_lines : List ℕ → List Float → List ℕ
quad_lines ps hs = places_line (get_or ps 0 0) (get_or ps 1 0) (get_or ps 2 0) (get_or ps 3 0) ++ key_line (key_of (hash_of hs))

-- the lines of the first n quads, one after the other
unfoldable pub all_lines : ℕ → List ℕ → List Float → List ℕ
all_lines zero ps hs = []
all_lines (suc n) ps hs = quad_lines ps hs ++ all_lines n (drop 4 ps) (drop 4 hs)

-- the line of an answer's number
unfoldable pub status_line : ℕ → List ℕ
status_line n = decimal_line status_name n

-- the text for n quads that were found
unfoldable pub found_text : ℕ → List ℕ → List Float → List ℕ
found_text n ps hs = status_line 0 ++ (decimal_line quads_name n ++ all_lines n ps hs)

-- the lines after the number of an answer: how many quads were found, and the lines of each; a refusal has none
unfoldable pub lines_of : Result ℕ Refusal → List ℕ → List Float → List ℕ
lines_of (Ok n) ps hs = decimal_line quads_name n ++ all_lines n ps hs
lines_of (Err why) ps hs = []
