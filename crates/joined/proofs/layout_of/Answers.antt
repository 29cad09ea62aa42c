-- The counts of the files with the oven, for the day.
use mathlib.Core.Path.{ap, ◌∙◌}
use Rattle.claimfile.specs.declared.Layout.{Layout}
use Rattle.claimfile.specs.Day.{on_day}
use Rattle.joined.proofs.layout_of.Goals as goal

pub returns : goal.returns
returns c =
    c.on_day.ensures
    ∙ ap (λ (x : Layout). on_day x c.args.day) c.layout_for.ensures.0
