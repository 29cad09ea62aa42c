-- Digits of 0, of the largest 64-bit number, and of a power of 10; a field; and fields of a given width.
use Rattle.std.specs.Prelude.{◌≡◌, refl}
use Rattle.text.specs.Text.{ascii, digits_by, decimal, line, field, blanks, at_right, spread}

digits0 : decimal 0 ≡ ascii "0"
unfolding decimal digits_by
digits0 = refl

digits100 : decimal 100 ≡ ascii "100"
unfolding decimal digits_by
digits100 = refl

largest : decimal 18446744073709551615 ≡ ascii "18446744073709551615"
unfolding decimal digits_by
largest = refl

kept9 : line (field "kept " 9) ≡ ascii "kept 9\n"
unfolding decimal digits_by
kept9 = refl

right : at_right 4 (ascii "12") ≡ ascii "  12"
unfolding blanks
right = refl

full : at_right 4 (ascii "1234") ≡ ascii "1234"
unfolding blanks
full = refl

both : spread 8 (ascii "KEPT") (ascii "12") ≡ ascii "KEPT  12"
unfolding blanks
both = refl
