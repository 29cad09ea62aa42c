-- `number_row` meets its contract: before a row the groups with a lower lowest row have their numbers (`Rowed`); the first walk
-- counts those with this lowest row, which are the named group and groups above it, and the second walk numbers them.
use native.Mathlib.Omega.{arith}
use Rattle.renumber.proofs.NumberLaws.{rowed-few, rowed-climbs, rowed-next}
use Rattle.renumber.proofs.number_row.Goals as goal

pub unnumbered-end-requires : goal.unnumbered-end-requires
unnumbered-end-requires c =
    let found = c.named_on-g in
    let few = rowed-few c.requires.sound.0 c.args.side c.requires.sound.1 found.ensures.0 c.requires.rowed in
    (found.ensures.1, omega (arith, found.ensures.1, few))

pub number_up-requires : goal.number_up-requires
number_up-requires c =
    let counted = c.unnumbered-end in
    let found = c.named_on-g in
    rowed-climbs c.requires.sound.0 c.args.side c.requires.sound.1 found.ensures.0 c.requires.rowed
    counted.result counted.ensures

pub returns : goal.returns
returns c =
    let counted = c.unnumbered-end in
    let found = c.named_on-g in
    rowed-next c.requires.sound.0 c.args.side c.requires.sound.1 found.ensures.0 c.requires.rowed
    counted.result counted.ensures c.number_up.new.cells c.number_up.ensures
