-- `check_group` meets its contract. The parent is no smaller group, and then it is the top or at fault; or it is one, and then a stored
-- file's limits are not judged, and a new file's are at fault where one of them is above the parent's.
use mathlib.Core.Path.{◌≡◌, sym, ap, ◌∙◌}
use native.Mathlib.Omega.{arith}
use Rattle.claimfile.specs.File.{columns, word, record_at}
use Rattle.reader.specs.Reading.{none_above}
use Rattle.claimfile.proofs.WidthLaws.{width-least, width-inside}
use Rattle.reader.proofs.FileLaws.{group-bad, group-top, group-stored, group-above, group-new}
use Rattle.reader.proofs.check.check_group.Goals as goal
use Rattle.reader.proofs.check.check_group.Goals.{After-none_above, After-u16_at-parent}

pub u16_at-parent-requires : goal.u16_at-parent-requires
u16_at-parent-requires c = omega (arith, c.record_at-at.ensures, c.requires, width-least c.args.form.week)

-- the parent that was read is the record's
parent_is :
    (c : After-u16_at-parent) →
    let a = c.args in
    c.u16_at-parent.result ≡ word a.file.now (record_at a.form.week a.start a.own)
parent_is c = c.u16_at-parent.ensures.0 ∙ ap (word c.args.file.now) c.record_at-at.ensures

-- the parent is no smaller group
pub returns-then-parent-ne-TOP : goal.returns-then-parent-ne-TOP
returns-then-parent-ne-TOP c =
    let a = c.args in
    let is = parent_is (goal.at.returns-then-parent-ne-TOP c).After-u16_at-parent in
    sym (group-bad a.form a.file.now a.start a.own (omega arith) (λ e. c.if-parent-ne-TOP.true (is ∙ e)))

pub returns-then-own-parent : goal.returns-then-own-parent
returns-then-own-parent c =
    let a = c.args in
    let is = parent_is (goal.at.returns-then-own-parent c).After-u16_at-parent in
    sym (group-top a.form a.file.now a.start a.own (omega arith) (sym is ∙ c.if-parent-ne-TOP.false))

-- it is one
pub returns-then-form : goal.returns-then-form
returns-then-form c =
    let a = c.args in
    let is = parent_is (goal.at.returns-then-form c).After-u16_at-parent in
    sym (group-stored a.form a.file.now a.start a.own (omega arith) c.if-form.true)

pub record_at-requires : goal.record_at-requires
record_at-requires c = omega (arith, c.requires, width-inside c.args.form.week c.u16_at-parent.result c.args.own (omega arith))

pub none_above-requires : goal.none_above-requires
none_above-requires c = (
  omega (arith, c.record_at-at.ensures, c.requires),
  omega (
    arith,
    c.record_at.ensures,
    c.requires,
    width-inside c.args.form.week c.u16_at-parent.result c.args.own (omega arith),
  ),
)

-- what was asked of the two records
asked :
    (c : After-none_above) →
    let a = c.args in
    let place = record_at a.form.week a.start in
    c.none_above.result
    ≡ none_above a.file.now (place a.own) (place (word a.file.now (place a.own))) (columns a.form.week)
asked c =
    let a = c.args in
    let place = record_at a.form.week a.start in
    c.none_above.ensures
    ∙ ap (λ x. none_above a.file.now x c.record_at.result (columns a.form.week)) c.record_at-at.ensures
    ∙ ap (λ x. none_above a.file.now (place a.own) x (columns a.form.week))
    (c.record_at.ensures ∙ ap place ((c.u16_at-parent.ensures.0 ∙ ap (word c.args.file.now) c.record_at-at.ensures)))

pub returns-then-none_above : goal.returns-then-none_above
returns-then-none_above c =
    let a = c.args in
    let is = parent_is (goal.at.returns-then-none_above c).After-u16_at-parent in
    sym
    (group-new a.form a.file.now a.start a.own (omega arith) c.if-form.false (sym (asked (goal.at.returns-then-none_above c).After-none_above) ∙ c.if-none_above.true))

pub returns : goal.returns
returns c =
    let a = c.args in
    let is = parent_is (goal.at.returns c).After-u16_at-parent in
    sym
    (group-above a.form a.file.now a.start a.own (omega arith) c.if-form.false (sym (asked (goal.at.returns c).After-none_above) ∙ c.if-none_above.false))
