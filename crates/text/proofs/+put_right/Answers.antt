-- `put_right` meets its contract. A number below 10 is blanks and one digit; any other is its tenth at the right of a field that is one
-- byte less wide, and its last digit. Either way it is two appends and so one. It calls itself; the measure is the number, which falls to
-- its tenth.
use mathlib.Core.Path.{◌≡◌, ap, ◌∙◌}
use mathlib.Core.List.{[], ◌∷◌}
use Prim.Native.Nat.{ℕ, ◌+◌, ◌-◌, ◌/◌, ◌%◌, ◌≤◌, ◌<◌}
use native.Mathlib.Omega.{arith}
use lib.ListN.{length, length-append}
use Rattle.text.specs.Text as text
use Rattle.text.specs.Text.{decimal, at_right}
use Rattle.text.proofs.TextLaws.{right-small, right-more}
use Rattle.text.proofs.BufferLaws.{then}
use Rattle.text.proofs.+put_right.Goals as goal

-- how long the parts of a field are: w bytes are blank, or have the tenth of n
abbrev blank : ℕ → ℕ
blank w = length (text.blanks w)

abbrev field : ℕ → ℕ → ℕ
field n w = length (at_right w (decimal (n / 10)))

small-length : (width n : ℕ) → n < 10 → length (at_right width (decimal n)) ≡ blank (width - 1) + 1
small-length width n h = ap length (right-small width n h) ∙ length-append (text.blanks (width - 1)) ((48 + n) ∷ [])

more-length : (width n : ℕ) → 10 ≤ n → length (at_right width (decimal n)) ≡ field n (width - 1) + 1
more-length width n h = ap length (right-more width n h) ∙ length-append (at_right (width - 1) (decimal (n / 10))) ((48 + n % 10) ∷ [])

pub put_blanks-next-requires : goal.put_blanks-next-requires
put_blanks-next-requires t c =
    let a = c.args in
    omega (arith, c.requires, small-length a.width a.n (omega arith), ap blank c.saturating_sub-rest.ensures)

pub put-requires : goal.put-requires
put-requires t c =
    let a = c.args in
    omega (arith, c.requires, small-length a.width a.n (omega arith), ap blank c.saturating_sub-rest.ensures)

pub returns-then-n-lt10 : goal.returns-then-n-lt10
returns-then-n-lt10 t c =
    let a = c.args in
    rw (right-small a.width a.n (omega arith))
    (then (rw c.saturating_sub-rest.ensures at c.put_blanks-next.ensures) c.put.ensures)

pub put_right-next-requires : goal.put_right-next-requires
put_right-next-requires t c =
    let a = c.args in
    (omega arith, omega (arith, c.requires, more-length a.width a.n (omega arith), ap (field a.n) c.saturating_sub-rest.ensures))

pub put-requires-2 : goal.put-requires-2
put-requires-2 t c =
    let a = c.args in
    omega (arith, c.requires, more-length a.width a.n (omega arith), ap (field a.n) c.saturating_sub-rest.ensures)

pub returns : goal.returns
returns t c =
    let a = c.args in
    rw (right-more a.width a.n (omega arith))
    (then (rw c.saturating_sub-rest.ensures at c.put_right-next.ensures) c.put-2.ensures)
