-- Words and numbers as bytes.
--   ascii w                the bytes of a word
--   last_digit n            the last decimal digit of n
--   digits_by more n        the digits of n, by at most so many divisions by 10
--   decimal n              the decimal digits of n: no leading zero, and `0` for 0
--   line b                 the bytes b, ended by a line feed
--   field w n              a word with its blanks, and a number
--   printable b            whether every byte is a printable ASCII character, from blank to tilde
--   blanks n               n blanks
--   at_right width b        the bytes b at the right of a field of so many bytes, after blanks
--   spread width w b       the bytes w at the left and b at the right of a field, blanks between
use Rattle.std.specs.Prelude.{ℕ, zero, suc, ◌+◌, ◌-◌, ◌/◌, ◌%◌, Bool, true, ◌&&◌, List, [], ◌∷◌, ◌++◌, length, ltb, leb}
use Prim.Native.Char.{code}
use Prim.Native.String.{String, [] as empty, ◌∷◌ as ◌before◌}
use Rattle.theory.specs.Sum.{pick}

-- all characters here are ASCII, so a character's code is its byte
abbrev pub ascii : String → List ℕ
ascii empty = []
ascii (c before w) = code c ∷ ascii w

abbrev pub last_digit : ℕ → ℕ
last_digit n = 48 + n % 10

-- before the last digit stand none, or those of n / 10
unfoldable pub digits_by : ℕ → ℕ → List ℕ
digits_by zero n = last_digit n ∷ []
digits_by (suc more) n = pick (ltb n 10) (λ q. []) (digits_by more) (n / 10) ++ (last_digit n ∷ [])

-- n divisions are enough, since n / 10 is less than n
unfoldable pub decimal : ℕ → List ℕ
decimal n = digits_by n n

abbrev pub line : List ℕ → List ℕ
line b = b ++ ascii "\n"

abbrev pub field : String → ℕ → List ℕ
field w n = ascii w ++ decimal n

abbrev pub printable : List ℕ → Bool
printable [] = true
printable (x ∷ b) = (leb 32 x && leb x 126) && printable b

unfoldable pub blanks : ℕ → List ℕ
blanks zero = []
blanks (suc n) = blanks n ++ ascii " "

-- what is wider than its field has no blanks before it
abbrev pub at_right : ℕ → List ℕ → List ℕ
at_right width b = blanks (width - length b) ++ b

abbrev pub spread : ℕ → List ℕ → List ℕ → List ℕ
spread width w b = w ++ at_right (width - length w) b
