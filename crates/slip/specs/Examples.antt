-- The slip's definition at a day of document 02, and at numbers of three digits.
use Rattle.std.specs.Prelude.{true, false, ◌≡◌, refl, [], ◌∷◌}
use Rattle.theory.specs.Sum.{sum}
use Rattle.text.specs.Text.{ascii, digits_by, decimal, blanks}
use Rattle.claimfile.specs.declared.Layout.{Layout}
use Rattle.refusal.specs.Examples.{week_a}
use Rattle.selection.specs.Selection.{count}
use Rattle.slip.specs.Slip.{first_line, row_line, kept_line, kept_lines, slip}

abbrev layout_a : Layout
layout_a = record { week = true; day = 0; cards = 2; shops = 2; rows = 3; card_at = 2; shop_at = 36; row_at = 70 }

-- day A with row 0 kept
slip_a : slip week_a layout_a (1 ∷ 0 ∷ 0 ∷ []) ≡ ascii "CLAIMS    3EARNED    1KEPT     1\n       0       0       0  EARNED\n"
unfolding slip first_line kept_lines kept_line row_line count sum decimal digits_by blanks
slip_a = refl

-- day A with all rows kept
slip_all : slip week_a layout_a (1 ∷ 1 ∷ 1 ∷ [])
    ≡ ascii "CLAIMS    3EARNED    1KEPT     3\n       0       0       0  EARNED\n       1       0       1   PLAIN\n       2       1       0   PLAIN\n"
unfolding slip first_line kept_lines kept_line row_line count sum decimal digits_by blanks
slip_all = refl

-- numbers of three digits
first512 : first_line 512 100 511 ≡ ascii "CLAIMS  512EARNED  100KEPT   511\n"
unfolding first_line decimal digits_by blanks
first512 = refl

row511 : row_line 511 255 100 false ≡ ascii "     511     255     100   PLAIN\n"
unfolding row_line decimal digits_by blanks
row511 = refl
