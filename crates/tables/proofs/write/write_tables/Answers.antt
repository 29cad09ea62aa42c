-- The only file of the day is written where it stands, and then all the tables are.
use Rattle.tables.proofs.WriteLaws.{wrote}
use Rattle.tables.proofs.write.write_tables.Goals as goal

pub returns : goal.returns
returns g c = wrote c.args.file.now c.args.layout c.args.sh c.requires.sound c.requires.shape _ _ c.write_file.ensures
