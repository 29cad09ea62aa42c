-- A node is a card group or, behind these, a shop group; on either side its record says what is above it (`node-is`).
use Prim.Native.Nat.{◌-◌}
use native.Mathlib.Omega.{arith}
use Rattle.instance.proofs.NodeLaws.{node-is}
use Rattle.instance.proofs.node_at.Goals as goal

pub returns-then-v-cards : goal.returns-then-v-cards
returns-then-v-cards c =
    let a = c.args in
    let card = c.group_of-card.ensures in
    let node =
    node-is a.file.now a.layout c.requires.0 0 a.v a.v (omega arith) (omega arith) c.requires.1 _ card.0 _
    c.above.ensures.0
    in
    (node.0, node.1, node.2, card.2)

pub returns : goal.returns
returns c =
    let a = c.args in
    let shop = c.group_of-shop.ensures in
    let node =
    node-is a.file.now a.layout c.requires.0 1 (a.v - a.layout.cards) a.v (omega (arith, c.requires.1))
    (omega arith) c.requires.1 _ shop.0 _ c.above-2.ensures.0
    in
    (node.0, node.1, node.2, shop.2)
