-- `put_file` meets its contract: each part is put where the ones before it are.
use Rattle.canonical.proofs.PartLaws.{ready-then, put_then, put-none}
use Rattle.canonical.proofs.put_file.Goals as goal

pub put_groups-requires : goal.put_groups-requires
put_groups-requires c =
    let given = c.requires.0 in
    (ready-then given (put-none given.layout c.put_counts.ensures), c.requires.1.of_cards)

pub put_groups-requires-2 : goal.put_groups-requires-2
put_groups-requires-2 c =
    let given = c.requires.0 in (
      ready-then given
          (put_then (put-none given.layout c.put_counts.ensures) c.put_groups.ensures),
      c.requires.1.of_shops,
    )

pub put_rows-requires : goal.put_rows-requires
put_rows-requires c =
    let given = c.requires.0 in (
      ready-then given
          (put_then (put_then (put-none given.layout c.put_counts.ensures) c.put_groups.ensures)
          c.put_groups-2.ensures),
      c.requires.1,
    )

pub returns : goal.returns
returns c =
    put_then
    (put_then
    (put_then (put-none c.requires.0.layout c.put_counts.ensures) c.put_groups.ensures)
    c.put_groups-2.ensures)
    c.put_rows.ensures
