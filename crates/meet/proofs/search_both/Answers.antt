-- Both ends are reached, and the search goes on from them.
use Rattle.meet.proofs.search_both.Goals as goal

pub returns : goal.returns
returns g c = c.spread_both.ensures (record { old = _; asked = c.requires; held = c.start_both.ensures })
