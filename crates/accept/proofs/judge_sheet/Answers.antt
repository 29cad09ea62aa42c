-- The choice fits, and the two faults that are left are told in the order of `judged`: past the first test every claim is covered.
use mathlib.Core.Path.{◌≡◌, sym, ◌∙◌}
use mathlib.Core.Bool.{true}
use native.Mathlib.Omega.{arith}
use Rattle.claimfile.specs.Day.{instance_of}
use Rattle.sheets.specs.Sheet.{covered}
use Rattle.instance.specs.Meaning.{nodes}
use Rattle.sheets.proofs.TableLaws.{zeros}
use Rattle.accept.proofs.VerdictLaws.{judgeable-sheeted, judgeable-countable, judged-uncovered, judged-unequal, judged-accepted}
use Rattle.accept.proofs.judge_sheet.Goals as goal
use Rattle.accept.proofs.judge_sheet.Goals.{Else-not-is_covered}

pub is_covered-requires : goal.is_covered-requires
is_covered-requires c = (judgeable-sheeted _ _ c.args.choice.now _ c.requires.0, zeros nodes (omega arith))

pub returns-then-not-is_covered : goal.returns-then-not-is_covered
returns-then-not-is_covered c =
    let a = c.args in
    judged-uncovered (instance_of a.file.now a.layout) a.choice.now a.sheet.now c.requires.1
    (sym c.is_covered.ensures.0 ∙ c.if-not-is_covered.true)

pub total_of-requires : goal.total_of-requires
total_of-requires c = (judgeable-sheeted _ _ c.args.choice.now _ c.requires.0, c.is_covered.ensures.1)

pub weight_kept-requires : goal.weight_kept-requires
weight_kept-requires c = judgeable-countable _ _ _ c.args.sheet.now c.requires.0

covering :
    (c : Else-not-is_covered) →
    let a = c.args in
    covered (instance_of a.file.now a.layout) a.sheet.now ≡ true
covering c =
    sym c.is_covered.ensures.0 ∙ c.if-not-is_covered.false

pub returns : goal.returns
returns c =
    let a = c.args in
    judged-accepted (instance_of a.file.now a.layout) a.choice.now a.sheet.now c.requires.1 (covering (goal.at.returns c).Else-not-is_covered)
    (omega (arith, c.if-total_of-weight_kept.false, c.total_of.ensures, c.weight_kept.ensures))

pub returns-then-total_of-weight_kept : goal.returns-then-total_of-weight_kept
returns-then-total_of-weight_kept c =
    let a = c.args in
    judged-unequal (instance_of a.file.now a.layout) a.choice.now a.sheet.now c.requires.1 (covering (goal.at.returns-then-total_of-weight_kept c).Else-not-is_covered)
    (λ e. omega (arith, c.if-total_of-weight_kept.true, c.total_of.ensures, c.weight_kept.ensures))
