-- Whether the choice fits is judged first, and the sheet where it does.
use mathlib.Core.Path.{sym, ◌∙◌}
use Rattle.claimfile.specs.Day.{instance_of}
use Rattle.accept.proofs.VerdictLaws.{judged-unfit}
use Rattle.accept.proofs.judge.Goals as goal

pub judge_sheet-requires : goal.judge_sheet-requires
judge_sheet-requires c = (c.requires, sym c.fits_both.ensures ∙ c.if-fits_both.true)

pub returns : goal.returns
returns c =
    let a = c.args in
    judged-unfit (instance_of a.file.now a.layout) a.choice.now a.sheet.now
    (sym c.fits_both.ensures ∙ c.if-fits_both.false)
