-- `put_row` meets its contract: the groups that the row names are used, so the tables have their new numbers.
use mathlib.Core.Path.{refl}
use Rattle.canonical.proofs.PartLaws.{put-row}
use Rattle.canonical.proofs.put_row.Goals as goal

pub returns : goal.returns
returns c =
    put-row c.requires.ready.0 c.requires.ready.1 c.requires.tables c.claim_of-claim.ensures.0
    c.from.ensures c.from-2.ensures refl c.put_claim.ensures
