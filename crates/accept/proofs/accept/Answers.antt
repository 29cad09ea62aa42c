-- The file's first fault is told, and what was sent with an accepted file is judged by `accept_on`.
use mathlib.Core.Path.{sym, ◌∙◌}
use Rattle.reader.proofs.PassedLaws.{passed-on}
use Rattle.reader.proofs.AcceptedLaws.{accepted-sound, accepted-kinds}
use Rattle.accept.proofs.VerdictLaws.{judges}
use Rattle.accept.proofs.accept.Goals as goal

pub accept_on-requires : goal.accept_on-requires
accept_on-requires c =
    let is = sym c.read.ensures ∙ c.in_ok-layout.was in
    (accepted-sound _ _ _ is, accepted-kinds _ _ _ is)

pub returns-in_err-layout : goal.returns-in_err-layout
returns-in_err-layout c = judges _ _ _ _ _ _ (sym c.read.ensures ∙ c.in_err-layout.was)
    (passed-on _ _ c.from_residual.ensures.1)

pub returns : goal.returns
returns c = judges _ _ _ _ _ _ (sym c.read.ensures ∙ c.in_ok-layout.was) c.accept_on.ensures
