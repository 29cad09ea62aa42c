-- Three stores, one into each table of the rows, of what the row's claim says: a claim hangs in the day where its file's groups stand.
use mathlib.Core.Path.{ap, ◌∙◌}
use Prim.Native.Nat.{ℕ, ◌+◌}
use native.Mathlib.Omega.{arith}
use Rattle.claimfile.specs.declared.Claim.{Claim}
use Rattle.instance.proofs.RowLaws.{weighed}
use Rattle.tables.proofs.WriteLaws.{card-lifted, put-row}
use Rattle.tables.proofs.write.write_row.Goals as goal
use Rattle.tables.proofs.write.write_row.Goals.{Start}

pub returns : goal.returns
returns g c =
    let a = c.args in
    let is = c.claim_of-claim.ensures.0 in
    put-row a.file.now a.layout a.sh a.spot _ _ _ _ a.c _ _ _
    (ap (λ (n : ℕ). a.spot.card + n) c.card_node.ensures.0
    ∙ card-lifted a.file.now a.layout a.c _ is c.claim_of-claim.ensures.1 a.spot.card a.sh.groups
    (omega (arith, c.requires.0.cards)))
    (ap (λ (x : Claim). a.spot.shop + x.shop) is)
    (c.power-weight.ensures.0 ∙ weighed a.file.now a.layout a.c _ is a.sh.rows)
    c.set_card.ensures c.set_shop.ensures c.set_weight.ensures
