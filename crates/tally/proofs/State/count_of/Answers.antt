-- `count_of` meets its contract. Whether the group has a node decides what is told.
use Rattle.tally.proofs.CallLaws.{show-lacks, show-count}
use Rattle.tally.proofs.State.count_of.Goals as goal

pub returns-then-node-ge-NODES : goal.returns-then-node-ge-NODES
returns-then-node-ge-NODES c =
    let a = c.args in
    show-lacks a.self a.side a.group c.node_of-node.result c.node_of-node.ensures c.number.result
    c.number.ensures c.if-node-ge-NODES.true

pub returns : goal.returns
returns c =
    let a = c.args in
    rw c.from.ensures
    (show-count a.self a.side a.group c.node_of-node.result c.node_of-node.ensures c.if-node-ge-NODES.false)
