use mathlib.Core.Path.{sym, ap, ◌∙◌}
use native.Mathlib.Omega.{arith}
use borrow.Author.Count.{below_more}
use Rattle.reader.specs.Reading.{none_above}
use Rattle.reader.proofs.FileLaws.{above-none, one-above}
use Rattle.reader.proofs.check.none_above.Goals as goal

pub overflow_add-parent : goal.overflow_add-parent
overflow_add-parent c = omega (arith, c.requires, c.columns_of-columns.ensures)

pub overflow_add-parent-in-loop-k : goal.overflow_add-parent-in-loop-k
overflow_add-parent-in-loop-k c = omega (arith, c.requires, c.columns_of-columns.ensures)

pub u16_at-requires : goal.u16_at-requires
u16_at-requires c = omega (arith, c.requires, c.columns_of-columns.ensures)

pub overflow_add-own : goal.overflow_add-own
overflow_add-own c = omega (arith, c.requires, c.columns_of-columns.ensures)

pub overflow_add-own-in-loop-k : goal.overflow_add-own-in-loop-k
overflow_add-own-in-loop-k c = omega (arith, c.requires, c.columns_of-columns.ensures)

pub u16_at-requires-in-loop-k : goal.u16_at-requires-in-loop-k
u16_at-requires-in-loop-k c = omega (arith, c.requires, c.columns_of-columns.ensures)

pub returns-then-u16_at : goal.returns-then-u16_at
returns-then-u16_at c =
    let a = c.args in
    sym
    (ap (none_above a.file.now a.own a.parent) (sym c.columns_of-columns.ensures.0)
    ∙ one-above a.file.now a.own a.parent c.columns_of-columns.result c.loop-k.k (omega arith)
    (omega (arith, c.u16_at-in-loop-k.ensures.0, c.u16_at.ensures.0)))

pub loop-k-preserved : goal.loop-k-preserved
loop-k-preserved c = below_more _ _ c.loop-k.invariant (omega (arith, c.u16_at-in-loop-k.ensures.0, c.u16_at.ensures.0))

pub returns : goal.returns
returns c =
    let a = c.args in
    sym
    (ap (none_above a.file.now a.own a.parent) (sym c.columns_of-columns.ensures.0)
    ∙ above-none a.file.now a.own a.parent c.columns_of-columns.result (λ i l. c.loop-k.invariant i (omega arith)))
