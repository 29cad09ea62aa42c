-- The table of examples holds, by computing.
use mathlib.Core.Path.{◌≡◌, refl}
use mathlib.Core.List.{map}
use native.Mathlib.Decide.{ℕ_discrete, dec_lt}
use Rattle.theory.specs.Sum.{sum, is, same, every}
use Rattle.theory.specs.Forest.{steps, walk, chain}
use Rattle.theory.specs.Lowered.{lowered}
use Rattle.theory.specs.Incidence.{load, fits, charge}
use Rattle.theory.specs.Network.{on_side, on_both, fits_both}
use Rattle.theory.specs.Priority.{weight_of}
use Rattle.reader.specs.Reading.{none_above, group_fault, claim_fault, records_from, count_fault, section_at, claims_at, reading_in}
use Rattle.claimfile.specs.Day.{parent_of, written_of, limit_of, card_node, shop_node}
use Rattle.selection.specs.Selection.{bits}
use Rattle.sheets.specs.Sheet.{covered}
use Rattle.accept.specs.Accept.{judged, verdict, verdict_number}
use Rattle.accept.specs.Examples.{Example, examples}

pub examples-told :
    map (λ (e : Example). verdict_number (verdict e.given e.file e.choice e.sheet)) examples
    ≡ map (λ (e : Example). e.number) examples
unfolding
    none_above group_fault claim_fault records_from count_fault section_at claims_at reading_in parent_of written_of limit_of card_node shop_node
    sum is same every steps walk chain lowered load fits charge on_side on_both fits_both weight_of bits covered judged verdict
    ℕ_discrete dec_lt
examples-told = refl
