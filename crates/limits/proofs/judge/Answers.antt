-- `judge` meets its contract: the selection is too short, then the day is over 6, then a byte is over 1.
use mathlib.Core.Path.{sym, ◌∙◌}
use native.Mathlib.Omega.{arith}
use Rattle.limits.proofs.EntryLaws.{judged-short, judged-day, judged-value, judged-is}
use Rattle.limits.proofs.judge.Goals as goal

pub returns-then-selection-rows : goal.returns-then-selection-rows
returns-then-selection-rows c =
    let a = c.args in
    judged-short a.selection.now a.layout (omega arith)

pub returns-then-layout-ge-DAYS : goal.returns-then-layout-ge-DAYS
returns-then-layout-ge-DAYS c =
    let a = c.args in
    judged-day a.selection.now a.layout (omega arith) (omega arith)

pub returns-then-all_bits : goal.returns-then-all_bits
returns-then-all_bits c =
    let a = c.args in
    judged-is a.selection.now a.layout (omega arith) (omega arith) (sym c.all_bits.ensures ∙ c.if-all_bits.true)

pub returns : goal.returns
returns c =
    let a = c.args in
    judged-value a.selection.now a.layout (omega arith) (omega arith) (sym c.all_bits.ensures ∙ c.if-all_bits.false)
