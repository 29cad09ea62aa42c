-- The loop keeps that the groups before v have their prices (`Priced`), and that the cells are as many as before.
use mathlib.Core.Path.{◌≡◌}
use lib.ListN.{length}
use Rattle.sheets.specs.Judge.{Priced}
use Rattle.sheets.proofs.cover.price_groups.Given as goal

abbrev pub invariant-loop-v : goal.invariant-loop-v
invariant-loop-v l = (length l.prices ≡ length l.initial.prices) × Priced l.file l.layout l.sheet l.prices l.v
