-- `shop_cell` meets its contract. The claim says where the row hangs.
use native.Mathlib.Omega.{arith}
use Rattle.tallytables.proofs.FillLaws.{shop-is}
use Rattle.tallytables.proofs.shop_cell.Goals as goal

pub returns : goal.returns
returns c =
    let a = c.args in (
      shop-is a.file.now a.layout a.c (omega arith) c.claim_of-claim.result c.claim_of-claim.ensures.0 c.shop_node.result
          (omega arith) c.shop_node.ensures,
      omega arith,
    )
