-- `put_word` meets its contract. The loop's invariant: the bytes of the word before this one are appended. The next byte makes them one
-- more, and at the end they are all.
use lib.ListN.{take}
use Rattle.text.specs.Buffer.{Appended}
use Rattle.text.proofs.put_word.Given as goal

abbrev pub invariant-loop-byte : goal.invariant-loop-byte
invariant-loop-byte l = Appended l.initial.out l.out l.at l.next (take l.byte-index l.word)
