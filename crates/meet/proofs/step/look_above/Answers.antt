-- A group has one arc to its parent (`rising-told`), and a root none (`rising_none`).
use Rattle.meet.proofs.ScanLaws.{scanned-none, open-look, rising-told, rising_none}
use Rattle.meet.proofs.step.look_above.Goals as goal

pub look_up-requires-clause-looking : goal.look_up-requires-clause-looking
look_up-requires-clause-looking g c =
    open-look c.requires (scanned-none c.requires)

pub returns-then-u-g : goal.returns-then-u-g
returns-then-u-g g c = rising-told c.requires c.look_up.ensures

pub returns : goal.returns
returns g c = rising_none c.requires c.if-u-g.false
