-- The text's definition at document 01's own examples, as document 02, E5, has day A.
use Rattle.std.specs.Prelude.{◌≡◌, refl, [], ◌∷◌}
use Rattle.theory.specs.Matroid.{row}
use Rattle.text.specs.Text.{ascii, digits_by, decimal}
use Rattle.report.specs.Text.{row_line, row_lines, first_line, last_line, closed_text, refused_text}

-- day A: row 0 is earned, and rows 0 and 1 are kept
day_a : closed_text 3 (row (1 ∷ 0 ∷ 0 ∷ [])) (row (1 ∷ 1 ∷ 0 ∷ [])) 1 2 5
    ≡ ascii "claims 3 earned 1 kept 2\n0 kept earned\n1 kept ordinary\n2 no ordinary\ntotal 5\n"
unfolding closed_text first_line row_lines row_line last_line decimal digits_by
day_a = refl

refused3 : refused_text 3 ≡ ascii "refused 3\n"
unfolding refused_text decimal digits_by
refused3 = refl
