-- The loop keeps that the groups passed are written: writing the next one changes no limit that stands above them.
use Rattle.tables.specs.Tables.{PutGroups}
use Rattle.tables.proofs.write.write_groups.Given as goal

abbrev pub invariant-loop-g : goal.invariant-loop-g
invariant-loop-g g l = PutGroups l.file l.layout l.side l.first l.root l.sh (g.W.Width.memory l.initial.scratch) (g.W.Width.memory l.scratch) l.g
