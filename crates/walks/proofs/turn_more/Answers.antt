-- In a round that turned no path its one walk began at the first items, so that no path is left (`round-none`); else more rows are kept,
-- and every node is made fresh for the next round (`round-path`).
use Rattle.walks.proofs.RoundLaws.{rewound-begun, rewound-ahead, round-path, round-none}
use Rattle.walks.proofs.turn_more.Goals as goal

pub turn_next-requires : goal.turn_next-requires
turn_next-requires g c =
    record {
      begun = rewound-begun c.requires c.rewind.ensures;
      ahead = rewound-ahead c.requires c.rewind.ensures;
    }

pub returns-then-turn_next : goal.returns-then-turn_next
returns-then-turn_next g c =
    round-path c.requires c.rewind.ensures c.turn_next.ensures c.if-turn_next.true
    c.turn_all.ensures c.refresh.ensures

pub returns : goal.returns
returns g c = round-none c.requires c.rewind.ensures c.turn_next.ensures c.if-turn_next.false
