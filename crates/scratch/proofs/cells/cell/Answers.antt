-- `cell` meets its contract: it reads the part that table k takes of the cell where cell i of the table lies.
use Prim.Native.Nat.{ℕ}
use lib.ListN.{get_or}
use mathlib.Core.Path.{sym, ap, ◌∙◌}
use Rattle.scratch.specs.Map.{part, part_of}
use Rattle.scratch.specs.Tables.{number_of, part_number}
use Rattle.scratch.proofs.MapLaws.{table_at}
use Rattle.scratch.proofs.cells.cell.Goals as goal

pub returns : goal.returns
returns g c = (
  let at = c.place-at in
      let a = c.args in
      let t = g.W.Width.memory a.scratch.now in
      c.number.ensures.0
      ∙ c.part_of.ensures
      ∙ ap (λ (x : ℕ). part_of (part_number c.table_part-part.result) x) c.get.ensures
      ∙ ap (λ (q : ℕ). part_of q (get_or t at.result 0)) c.table_part-part.ensures
      ∙ ap (λ (x : ℕ). part_of (part (number_of a.k)) (get_or t x 0)) at.ensures.0
      ∙ sym (table_at a.sh t (number_of a.k) a.i c.requires.cell.index),
  c.number.ensures.1,
)
