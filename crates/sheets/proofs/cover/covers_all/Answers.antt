use mathlib.Core.Path.{sym, ◌∙◌}
use native.Mathlib.Omega.{arith}
use Rattle.claimfile.specs.Day.{instance_of}
use Rattle.sheets.proofs.CoverLaws.{covered-not, covered-all}
use Rattle.sheets.proofs.cover.covers_all.Goals as goal

pub returns-then-not-covers_row : goal.returns-then-not-covers_row
returns-then-not-covers_row c =
    let a = c.args in
    covered-not (instance_of a.file.now a.layout) a.sheet.now c.loop-c.c (omega arith)
    (sym c.covers_row.ensures ∙ c.if-not-covers_row.true)

pub returns : goal.returns
returns c =
    let a = c.args in
    covered-all (instance_of a.file.now a.layout) a.sheet.now (λ i h. c.loop-c.invariant i (omega arith))
