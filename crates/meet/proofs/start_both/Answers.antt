-- Each end gets the number that no arc has and its place in the queue, and no other node is reached (`held_start`).
use mathlib.Core.Path.{refl}
use Rattle.meet.proofs.SearchLaws.{held_start}
use Rattle.meet.proofs.start_both.Goals as goal

pub returns : goal.returns
returns g c =
    held_start c.requires refl c.set_label.ensures c.set_queue.ensures
    c.set_label-2.ensures c.set_queue-2.ensures
