-- The file that is closed was accepted, so that it is sound, and the choice is long enough.
use Rattle.std.proofs.Common.{sym, ◌∙◌}
use native.Mathlib.Omega.{arith}
use Rattle.reader.proofs.AcceptedLaws.{accepted-sound}
use Rattle.report_test.proofs.text_of.Goals as goal

pub write_closed-requires : goal.write_closed-requires
write_closed-requires c =
    (accepted-sound _ _ _ (sym c.read-reading.ensures ∙ c.in-Ok.is), omega arith)
