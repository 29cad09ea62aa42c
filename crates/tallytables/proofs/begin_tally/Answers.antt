-- Each reading of the file, and the day, is a case of `Started`.
use mathlib.Core.Path.{sym, ap, ◌∙◌}
use native.Mathlib.Omega.{arith}
use Rattle.refusal.specs.Table.{outcome_number}
use Rattle.reader.proofs.AcceptedLaws.{accepted-sound}
use Rattle.tallytables.proofs.BeginLaws.{started-refused, started-dayless, started-filled}
use Rattle.tallytables.proofs.begin_tally.Goals as goal

pub returns-in-Err : goal.returns-in-Err
returns-in-Err c =
    let a = c.args in
    started-refused a.form a.file.now _ _ _ (sym c.read.ensures ∙ c.in-Err.is) (ap outcome_number c.refuse.ensures.0) c.refuse.ensures.1

pub returns-then-layout-ge-DAYS : goal.returns-then-layout-ge-DAYS
returns-then-layout-ge-DAYS c =
    let a = c.args in
    started-dayless a.form a.file.now _ _ _ (sym c.read.ensures ∙ c.in-Ok.is) (omega arith)
    (ap outcome_number c.refuse-then-layout-ge-DAYS.ensures.0) c.refuse-then-layout-ge-DAYS.ensures.1

pub enter-requires : goal.enter-requires
enter-requires c =
    let a = c.args in
    (accepted-sound a.form a.file.now _ (sym c.read.ensures ∙ c.in-Ok.is), c.requires)

pub returns-else-layout-ge-DAYS : goal.returns-else-layout-ge-DAYS
returns-else-layout-ge-DAYS c =
    let a = c.args in
    started-filled a.form a.file.now _ _ _ (sym c.read.ensures ∙ c.in-Ok.is) (omega arith)
    (ap outcome_number c.enter.ensures.0) c.enter.ensures.1
