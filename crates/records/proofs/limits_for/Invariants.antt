-- `limits_for` meets its contract. The loop's invariant: the limits of the days before `day` are those of the new record.
use Rattle.records.specs.Records.{LimitsTo}
use Rattle.records.proofs.limits_for.Given as goal

abbrev pub invariant-loop-day : goal.invariant-loop-day
invariant-loop-day l = LimitsTo l.file l.layout l.new l.side l.g l.parent l.out l.day l.limits
