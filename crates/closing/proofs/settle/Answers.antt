-- The file's first fault is told with nothing changed, and an accepted file is settled by `settle_on`.
use mathlib.Core.Path.{sym, ◌∙◌}
use Rattle.reader.proofs.PassedLaws.{passed-on}
use Rattle.reader.proofs.AcceptedLaws.{accepted-sound, accepted-kinds}
use Rattle.closing.proofs.AnswerLaws.{settles-refused, settles-accepted}
use Rattle.closing.proofs.settle.Goals as goal

pub settle_on-requires : goal.settle_on-requires
settle_on-requires c =
    let is = sym c.read.ensures ∙ c.in_ok-layout.was in
    (accepted-sound _ _ _ is, accepted-kinds _ _ _ is)

pub returns-in_err-layout : goal.returns-in_err-layout
returns-in_err-layout c = settles-refused _ _ _ _ _ _ _ (sym c.read.ensures ∙ c.in_err-layout.was)
    (passed-on _ _ c.from_residual.ensures.1)

pub returns : goal.returns
returns c =
    settles-accepted _ _ _ _ _ _ _ _ _ _ (sym c.read.ensures ∙ c.in_ok-layout.was)
    c.settle_on.ensures
