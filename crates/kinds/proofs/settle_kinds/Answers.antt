-- The file's first fault is told with nothing changed, and an accepted file is settled by `settle_kinds_on`.
use mathlib.Core.Path.{sym, ◌∙◌}
use Rattle.reader.proofs.PassedLaws.{passed-on}
use Rattle.reader.proofs.TermsLaws.{second-sound, second-kinds}
use Rattle.kinds.proofs.AnswerLaws.{kinds-refused, kinds-accepted}
use Rattle.kinds.proofs.settle_kinds.Goals as goal

pub settle_kinds_on-requires : goal.settle_kinds_on-requires
settle_kinds_on-requires c =
    let is = sym c.read_kinds.ensures ∙ c.in_ok-layout.was in
    (second-sound _ _ _ is, second-kinds _ _ _ is)

pub returns-in_err-layout : goal.returns-in_err-layout
returns-in_err-layout c = kinds-refused _ _ _ _ _ _ _ (sym c.read_kinds.ensures ∙ c.in_err-layout.was)
    (passed-on _ _ c.from_residual.ensures.1)

pub returns : goal.returns
returns c =
    kinds-accepted _ _ _ _ _ _ _ _ _ _ (sym c.read_kinds.ensures ∙ c.in_ok-layout.was)
    c.settle_kinds_on.ensures
