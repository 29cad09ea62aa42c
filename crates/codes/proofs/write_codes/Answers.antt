-- The file's first fault is told with nothing changed, and the codes of an accepted file are written by `write_codes_on`.
use mathlib.Core.Path.{sym, ◌∙◌}
use Rattle.reader.proofs.PassedLaws.{passed-on}
use Rattle.reader.proofs.AcceptedLaws.{accepted-sound, accepted-kinds}
use Rattle.codes.proofs.WriteLaws.{writes-refused, writes-accepted}
use Rattle.codes.proofs.write_codes.Goals as goal

pub write_codes_on-requires : goal.write_codes_on-requires
write_codes_on-requires c =
    let is = sym c.read.ensures ∙ c.in_ok-layout.was in
    (accepted-sound _ _ _ is, accepted-kinds _ _ _ is)

pub returns-in_err-layout : goal.returns-in_err-layout
returns-in_err-layout c = writes-refused _ _ _ _ _ _ (sym c.read.ensures ∙ c.in_err-layout.was)
    (passed-on _ _ c.from_residual.ensures.1)

pub returns : goal.returns
returns c =
    writes-accepted _ _ _ _ _ _ _ _ (sym c.read.ensures ∙ c.in_ok-layout.was)
    c.write_codes_on.ensures
