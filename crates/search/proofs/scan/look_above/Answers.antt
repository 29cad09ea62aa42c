-- Where `rises` holds, the only arc of the scan is the one that `look_up` looked along (`rising-told`); else there is none (`rising_none`).
use Rattle.search.proofs.ScanLaws.{scanned-none, open-look, rising-told, rising_none}
use Rattle.search.proofs.scan.look_above.Goals as goal

pub look_up-requires-clause-looking : goal.look_up-requires-clause-looking
look_up-requires-clause-looking g c =
    open-look c.requires.opened (scanned-none c.requires.opened)

pub returns-then-rises : goal.returns-then-rises
returns-then-rises g c = rising-told c.requires.opened c.look_up.ensures

pub returns : goal.returns
returns g c = rising_none c.if-rises.false c.requires.opened
