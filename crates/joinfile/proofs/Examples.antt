-- The two files are accepted, their joined file is what it says, and so are its best choices, by computing.
--   files-read             both files are accepted as new files, laid out as it says
--   joined_is              the joined file under an oven limit of 2
--   joined-best                its best choice under oven limits 0 to 3: under 1 the earned claim, under 2 the first of the others too, under 3 all
use mathlib.Core.Path.{◌≡◌, refl}
use mathlib.Core.List.{[], ◌∷◌, map}
use Prim.Native.Nat.{ℕ}
use native.Mathlib.Decide.{ℕ_discrete, dec_lt}
use Rattle.theory.specs.Sum.{sum, is, same, every}
use Rattle.theory.specs.Forest.{steps, walk, chain}
use Rattle.theory.specs.Lowered.{lowered}
use Rattle.theory.specs.Incidence.{load, fits}
use Rattle.theory.specs.Network.{on_side, fits_both}
use Rattle.theory.specs.Priority.{kept}
use Rattle.theory.specs.Search.{selections, more, nothing, search, best, best_choice}
use Rattle.claimfile.specs.File.{new_week}
use Rattle.claimfile.specs.Day.{parent_of, written_of, limit_of, card_node, shop_node}
use Rattle.reader.specs.Reading.{none_above, group_fault, claim_fault, records_from, count_fault, section_at, claims_at, reading_in, reading}
use Rattle.claimwriter.specs.Written.{records, section, file_bytes}
use Rattle.counters.specs.Joined.{which}
use Rattle.joinfile.specs.Examples.{files, layouts, joined_of, joined_bytes, best_under}
use Rattle.std.specs.Prelude.{Ok}

pub files-read :
    map (λ (k : ℕ). reading (new_week 0) (files k)) (0 ∷ 1 ∷ []) ≡ map (λ (k : ℕ). Ok (layouts k)) (0 ∷ 1 ∷ [])
unfolding none_above group_fault claim_fault records_from count_fault section_at claims_at reading_in every
files-read = refl

pub joined_is : joined_of 2 ≡ joined_bytes 2
unfolding sum which records section file_bytes
joined_is = refl

pub joined-best : map best_under (0 ∷ 1 ∷ 2 ∷ 3 ∷ []) ≡ (0 ∷ 0 ∷ 0 ∷ []) ∷ (1 ∷ 0 ∷ 0 ∷ []) ∷ (1 ∷ 1 ∷ 0 ∷ []) ∷ (1 ∷ 1 ∷ 1 ∷ []) ∷ []
unfolding
    parent_of written_of limit_of card_node shop_node sum is same every steps walk chain lowered load fits on_side fits_both
    selections kept more nothing search best best_choice ℕ_discrete dec_lt
joined-best = refl
