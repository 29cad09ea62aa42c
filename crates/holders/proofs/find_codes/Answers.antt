-- The start keeps some earned rows; paths are turned until there is none; then the two labels are given, and the codes read off.
use mathlib.Core.Path.{◌∙◌}
use native.Mathlib.Omega.{arith}
use Rattle.holders.proofs.FindLaws.{source-labelled}
use Rattle.holders.proofs.FoundLaws.{labels-found}
use Rattle.holders.proofs.find_codes.Goals as goal

pub label_source-requires : goal.label_source-requires
label_source-requires g c = c.augment.ensures.ended.state.room

pub label_sink-requires : goal.label_sink-requires
label_sink-requires g c =
    source-labelled c.augment.ensures.ended c.requires.fresh c.label_source.ensures
    (λ v. omega (arith, c.start.ensures.range v))

pub returns : goal.returns
returns g c =
    labels-found c.start.ensures c.augment.ensures c.label_source.ensures
    c.label_sink.ensures c.put_codes.ensures _
    (c.augment.auto.choice ∙ c.start.auto.choice)
