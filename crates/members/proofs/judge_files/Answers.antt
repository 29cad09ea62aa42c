-- `judge_files` meets its contract: the lengths decide first, and then what is gathered.
use mathlib.Core.Path.{sym, ◌∙◌}
use Rattle.members.proofs.GatherLaws.{judged-files, judged-by}
use Rattle.members.proofs.judge_files.Goals as goal

pub returns-then-not-lengths_fit : goal.returns-then-not-lengths_fit
returns-then-not-lengths_fit c =
    let a = c.args in
    judged-files a.day a.files.now a.lengths.now (sym c.lengths_fit.ensures ∙ c.if-not-lengths_fit.true)

pub returns : goal.returns
returns c =
    let a = c.args in
    c.gather.ensures
    ∙ judged-by a.day a.files.now a.lengths.now (sym c.lengths_fit.ensures ∙ c.if-not-lengths_fit.false)
