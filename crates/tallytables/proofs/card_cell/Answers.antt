-- `card_cell` meets its contract. The claim says where the row hangs.
use native.Mathlib.Omega.{arith}
use Rattle.tallytables.proofs.FillLaws.{card-is}
use Rattle.tallytables.proofs.card_cell.Goals as goal

pub returns : goal.returns
returns c =
    let a = c.args in (
      card-is a.file.now a.layout a.c (omega arith) c.claim_of-claim.result c.claim_of-claim.ensures.0 c.to_cell.result
          (omega arith) c.card_node.result c.card_node.ensures.0 c.to_cell.ensures.0,
      c.to_cell.ensures.1,
    )
