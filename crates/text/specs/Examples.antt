-- A worked example, by computation.
use Rattle.std.specs.Prelude.{◌≡◌, refl, [], ◌∷◌}
use Rattle.digits.specs.Digits.{decimal_from, decimal_of}
use Rattle.text.specs.Lines.{decimal_line}

-- the name "k=" and the number 3 make the line "k=3\n"
line_k : decimal_line (107 ∷ 61 ∷ []) 3 ≡ 107 ∷ 61 ∷ 51 ∷ 10 ∷ []
unfolding decimal_line decimal_of decimal_from
line_k = refl
