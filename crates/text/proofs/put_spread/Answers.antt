-- `put_spread` meets its contract: the word, and then the number at the right of what it leaves of the field, are two appends and so one.
use mathlib.Core.Path.{◌≡◌}
use Prim.Native.Nat.{◌-◌}
use native.Mathlib.Omega.{arith}
use lib.ListN.{length, length-append}
use Rattle.text.specs.Text.{decimal, at_right}
use Rattle.text.proofs.BufferLaws.{then}
use Rattle.text.proofs.put_spread.Goals as goal

pub put_word-next-requires : goal.put_word-next-requires
put_word-next-requires c =
    let a = c.args in
    omega (arith, c.requires, length-append a.word.now (at_right (a.width - length a.word.now) (decimal a.n)))

pub put_right-requires : goal.put_right-requires
put_right-requires c =
    let a = c.args in
    let left : c.saturating_sub.result ≡ a.width - length a.word.now = omega arith in
    rw left
    (omega (arith, c.requires, length-append a.word.now (at_right (a.width - length a.word.now) (decimal a.n))))

pub returns : goal.returns
returns c =
    let a = c.args in
    let left : c.saturating_sub.result ≡ a.width - length a.word.now = omega arith in
    then c.put_word-next.ensures (rw left at c.put_right.ensures)
