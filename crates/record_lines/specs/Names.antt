-- The names of a record's lines, in the order of the scope. Definitions only.
use Rattle.std.specs.Prelude.{List, [], ◌∷◌, ℕ, ◌+◌}
use Rattle.sip_terms.specs.declared.Term.{Term}

-- "format="
abbrev pub format_name : List ℕ
format_name = 102 ∷ 111 ∷ 114 ∷ 109 ∷ 97 ∷ 116 ∷ 61 ∷ []

-- "rows="
abbrev pub rows_name : List ℕ
rows_name = 114 ∷ 111 ∷ 119 ∷ 115 ∷ 61 ∷ []

-- "crpix1="
abbrev pub crpix1_name : List ℕ
crpix1_name = 99 ∷ 114 ∷ 112 ∷ 105 ∷ 120 ∷ 49 ∷ 61 ∷ []

-- "crpix2="
abbrev pub crpix2_name : List ℕ
crpix2_name = 99 ∷ 114 ∷ 112 ∷ 105 ∷ 120 ∷ 50 ∷ 61 ∷ []

-- "cd1_1="
abbrev pub cd11_name : List ℕ
cd11_name = 99 ∷ 100 ∷ 49 ∷ 95 ∷ 49 ∷ 61 ∷ []

-- "cd1_2="
abbrev pub cd12_name : List ℕ
cd12_name = 99 ∷ 100 ∷ 49 ∷ 95 ∷ 50 ∷ 61 ∷ []

-- "cd2_1="
abbrev pub cd21_name : List ℕ
cd21_name = 99 ∷ 100 ∷ 50 ∷ 95 ∷ 49 ∷ 61 ∷ []

-- "cd2_2="
abbrev pub cd22_name : List ℕ
cd22_name = 99 ∷ 100 ∷ 50 ∷ 95 ∷ 50 ∷ 61 ∷ []

-- "order="
abbrev pub order_name : List ℕ
order_name = 111 ∷ 114 ∷ 100 ∷ 101 ∷ 114 ∷ 61 ∷ []

-- "linear_rms="
abbrev pub linear_name : List ℕ
linear_name = 108 ∷ 105 ∷ 110 ∷ 101 ∷ 97 ∷ 114 ∷ 95 ∷ 114 ∷ 109 ∷ 115 ∷ 61 ∷ []

-- "rms="
abbrev pub rms_name : List ℕ
rms_name = 114 ∷ 109 ∷ 115 ∷ 61 ∷ []

-- "wrms="
abbrev pub wrms_name : List ℕ
wrms_name = 119 ∷ 114 ∷ 109 ∷ 115 ∷ 61 ∷ []

-- the letters of the axes, 'a' and 'b'
abbrev pub a_letter : ℕ
a_letter = 97

-- the letter of the second axis
abbrev pub b_letter : ℕ
b_letter = 98

-- "a_2_0=", for a letter and a term whose powers have one digit each
abbrev pub term_name : ℕ → Term → List ℕ
term_name letter t = letter ∷ 95 ∷ (48 + t.p) ∷ 95 ∷ (48 + t.q) ∷ 61 ∷ []
