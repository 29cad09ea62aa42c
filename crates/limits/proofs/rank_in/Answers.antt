-- `rank_in` meets its contract: a file that is entered is ready for the body, and each answer is that of the definition.
use mathlib.Core.Path.{sym, ◌∙◌}
use native.Mathlib.Omega.{arith}
use Rattle.reader.proofs.PassedLaws.{passed-on}
use Rattle.limits.proofs.EntryLaws.{entered-ready}
use Rattle.limits.proofs.AnswerLaws.{ranked-value, ranked-side, answered-by}
use Rattle.limits.proofs.rank_in.Goals as goal

pub returns-in_err-layout : goal.returns-in_err-layout
returns-in_err-layout c =
    let a = c.args in
    answered-by a.kinds a.form a.file.now a.selection.now a.side _ c.enter.result _ c.enter.ensures c.in_err-layout.was
    (passed-on _ _ c.from_residual.ensures.1)

pub returns-then-side-gt1 : goal.returns-then-side-gt1
returns-then-side-gt1 c =
    let a = c.args in
    answered-by a.kinds a.form a.file.now a.selection.now a.side _ c.enter.result _ c.enter.ensures c.in_ok-layout.was
    (ranked-value a.file.now a.selection.now a.side _ (omega arith))

pub rank_on-requires : goal.rank_on-requires
rank_on-requires c =
    let a = c.args in
    entered-ready a.kinds a.form a.file.now a.selection.now _ (sym c.enter.ensures ∙ c.in_ok-layout.was)

pub returns : goal.returns
returns c =
    let a = c.args in
    answered-by a.kinds a.form a.file.now a.selection.now a.side _ c.enter.result _ c.enter.ensures c.in_ok-layout.was
    (ranked-side a.file.now a.selection.now a.side _ (omega arith) c.rank_on.result c.rank_on.ensures.is)
