-- `check_rows` meets its contract. The loop goes through the records that are whole and keeps that the first fault of the records left is
-- that of all; behind them all records were read, or the next one is cut off.
use mathlib.Core.Path.{◌≡◌}
use Prim.Native.Nat.{◌-◌}
use Rattle.reader.specs.Reading.{rows_from}
use Rattle.reader.proofs.check.check_rows.Given as goal

abbrev pub invariant-loop-c : goal.invariant-loop-c
invariant-loop-c l = rows_from l.kinds l.rows l.cards l.shops l.c (l.count - l.c) ≡ rows_from l.kinds l.rows l.cards l.shops 0 l.count
