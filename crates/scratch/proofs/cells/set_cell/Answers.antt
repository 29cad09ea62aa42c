-- `set_cell` meets its contract: the part that table k takes of the cell becomes x, and the rest of the cell and every other cell stay
-- (`put-at`).
use Prim.Native.Nat.{ℕ}
use mathlib.Core.Path.{ap, ◌∙◌}
use Rattle.scratch.specs.Map.{with_part}
use Rattle.scratch.specs.Tables.{number_of, part_number}
use Rattle.scratch.proofs.MapLaws.{put-at}
use Rattle.scratch.proofs.cells.set_cell.Goals as goal

pub returns : goal.returns
returns g c =
    let a = c.args in
    let t = g.W.Width.memory a.scratch.now in
    rw c.put.ensures
    (put-at a.sh t (number_of a.k) a.i a.x c.requires.cell.index c.requires.room c.requires.x_bound
    c.place-at.ensures.0 c.table_part-part.ensures
    (c.with_part.ensures ∙ ap (λ (y : ℕ). with_part (part_number c.table_part-part.result) y a.x) c.get-old.ensures))
