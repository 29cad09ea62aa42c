-- `enter` meets its contract.
use mathlib.Core.Path.{sym, ◌∙◌}
use Rattle.reader.proofs.PassedLaws.{passed-on}
use Rattle.limits.proofs.EntryLaws.{entered_by_lem}
use Rattle.limits.proofs.enter.Goals as goal

pub returns-in_err-layout : goal.returns-in_err-layout
returns-in_err-layout c =
    let a = c.args in
    passed-on _ _ c.from_residual.ensures.1
    ∙ sym (entered_by_lem a.kinds a.form a.file.now a.selection.now _ (sym c.read_in.ensures ∙ c.in_err-layout.was))

pub returns : goal.returns
returns c =
    let a = c.args in
    c.judge.ensures
    ∙ sym (entered_by_lem a.kinds a.form a.file.now a.selection.now _ (sym c.read_in.ensures ∙ c.in_ok-layout.was))
