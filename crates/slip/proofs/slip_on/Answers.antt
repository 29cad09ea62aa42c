-- `slip_on` meets its contract: each way is one case of the outcome. A buffer that is long enough takes the whole slip, whose length is
-- that of its lines.
use mathlib.Core.Path.{sym, ◌∙◌}
use native.Mathlib.Omega.{arith}
use Rattle.slip.proofs.WriteLaws.{on-few, on-short, on-day, on_value, on-written}
use Rattle.slip.proofs.slip_on.Goals as goal

pub returns-then-selection-rows : goal.returns-then-selection-rows
returns-then-selection-rows c =
    let a = c.args in
    on-few a.file.now a.layout a.selection.now a.out.now (omega arith)

pub returns-then-out-kept : goal.returns-then-out-kept
returns-then-out-kept c =
    let a = c.args in
    on-short a.file.now a.layout a.selection.now a.out.now (omega arith) (omega arith)

pub returns-then-layout-ge-DAYS : goal.returns-then-layout-ge-DAYS
returns-then-layout-ge-DAYS c =
    let a = c.args in
    on-day a.file.now a.layout a.selection.now a.out.now (omega arith) (omega arith) (omega arith)

pub returns-then-not-all_bits : goal.returns-then-not-all_bits
returns-then-not-all_bits c =
    let judged = c.all_bits in
    let a = c.args in
    on_value a.file.now a.layout a.selection.now a.out.now (omega arith) (omega arith) (omega arith)
    (sym judged.ensures ∙ c.if-not-all_bits.true)

pub returns : goal.returns
returns c =
    let judged = c.all_bits in
    let a = c.args in
    on-written a.file.now a.layout a.selection.now a.out.now (omega arith) (omega arith) (omega arith)
    (sym judged.ensures ∙ c.if-not-all_bits.false) c.requires _ _ c.put_slip.ensures
