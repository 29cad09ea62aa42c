-- The next byte makes the bytes so far one more.
use native.Mathlib.Numerals.{add-one}
use lib.Seq.{take-suc}
use Rattle.text.proofs.BufferLaws.{then}
use Rattle.text.proofs.put_word.Goals as goal

pub loop-byte-preserved : goal.loop-byte-preserved
loop-byte-preserved c =
    rw (add-one, take-suc c.args.word.now c.loop-byte.byte-index 0 c.loop-byte-test.true)
    (then c.loop-byte.invariant c.put-next.ensures)
