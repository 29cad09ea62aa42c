-- The tables of examples hold, by computing.
--   examples-told          what is told of each buffer
--   sizes-told             what is told by the readings of each list of files
use mathlib.Core.Path.{◌≡◌, refl}
use mathlib.Core.List.{map}
use lib.ListN.{length, get_or}
use Rattle.theory.specs.Sum.{sum, every}
use Rattle.reader.specs.Reading.{none_above, group_fault, claim_fault, records_from, count_fault, section_at, claims_at, reading_in}
use Rattle.members.specs.Members.{lengths_fit, gathered, judged_by, judged}
use Rattle.members.specs.Examples.{told_of, Example, examples, SizesExample, sized, sizes_examples}

pub examples-told :
    map (λ (e : Example). told_of (judged 0 e.files e.lengths)) examples ≡ map (λ (e : Example). e.told) examples
unfolding
    none_above group_fault claim_fault records_from count_fault section_at claims_at reading_in sum every lengths_fit gathered judged
examples-told = refl

pub sizes-told :
    map (λ (e : SizesExample). told_of (judged_by (gathered (λ k. get_or e.readings k (sized 0 0 0)) (length e.readings)))) sizes_examples
    ≡ map (λ (e : SizesExample). e.told) sizes_examples
unfolding gathered
sizes-told = refl
