-- `cell` meets its contract. The cell's place says which table it is of.
use mathlib.Core.Path.{sym, ◌∙◌}
use Prim.Native.Nat.{◌-◌}
use native.Mathlib.Omega.{arith}
use Rattle.claimfile.specs.Day.{instance_of}
use Rattle.tally.proofs.CellLaws.{cell-parent, cell-limit, cell-card, cell-shop}
use Rattle.tallytables.proofs.FillLaws.{in_table}
use Rattle.tallytables.proofs.cell.Goals as goal

pub returns-then-i-lt-LIMITS : goal.returns-then-i-lt-LIMITS
returns-then-i-lt-LIMITS c =
    let a = c.args in
    (c.parent_cell.ensures.0 ∙ sym (cell-parent (instance_of a.file.now a.layout) a.i (omega arith)), c.parent_cell.ensures.1)

pub returns-then-i-lt-CARD_NODES : goal.returns-then-i-lt-CARD_NODES
returns-then-i-lt-CARD_NODES c =
    let a = c.args in
    let day = instance_of a.file.now a.layout in (
      c.limit_cell.ensures.0 ∙ sym (cell-limit day (a.i - 512) (omega arith)) ∙ in_table day 512 a.i (omega arith),
      c.limit_cell.ensures.1,
    )

pub returns-then-i-lt-SHOP_NODES : goal.returns-then-i-lt-SHOP_NODES
returns-then-i-lt-SHOP_NODES c =
    let a = c.args in
    let day = instance_of a.file.now a.layout in (
      c.card_cell.ensures.0 ∙ sym (cell-card day (a.i - 1024) (omega arith)) ∙ in_table day 1024 a.i (omega arith),
      c.card_cell.ensures.1,
    )

pub returns : goal.returns
returns c =
    let a = c.args in
    let day = instance_of a.file.now a.layout in (
      c.shop_cell.ensures.0 ∙ sym (cell-shop day (a.i - 1536)) ∙ in_table day 1536 a.i (omega arith),
      c.shop_cell.ensures.1,
    )
