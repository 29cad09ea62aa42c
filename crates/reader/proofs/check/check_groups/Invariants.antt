-- `check_groups` meets its contract. The loop goes through the records that are whole and keeps that the first fault of the records left is
-- that of all; behind them all records were read, or the next one is cut off.
use mathlib.Core.Path.{◌≡◌}
use Prim.Native.Nat.{◌-◌}
use Rattle.reader.specs.Reading.{groups_from}
use Rattle.reader.proofs.check.check_groups.Given as goal

abbrev pub invariant-loop-own : goal.invariant-loop-own
invariant-loop-own l = groups_from l.form l.file l.start l.own (l.count - l.own) ≡ groups_from l.form l.file l.start 0 l.count
