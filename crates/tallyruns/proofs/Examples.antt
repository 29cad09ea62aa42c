-- The worked run holds of the definitions, in both layouts, by computing both sides.
use mathlib.Core.Path.{◌≡◌, refl}
use native.Mathlib.Decide.{ℕ_discrete, dec_lt}
use Rattle.theory.specs.Sum.{sum, is, same, every}
use Rattle.theory.specs.Forest.{steps, walk, chain}
use Rattle.theory.specs.Lowered.{lowered}
use Rattle.theory.specs.Incidence.{plus, load, fits}
use Rattle.theory.specs.Network.{on_side, on_both, fits_both}
use Rattle.exchange.specs.Exchange.{minus}
use Rattle.claimfile.specs.File.{new_week, new_old}
use Rattle.claimfile.specs.Day.{parent_of, written_of, limit_of, card_node, shop_node}
use Rattle.reader.specs.Reading.{none_above, group_fault, claim_fault, records_from, count_fault, section_at, claims_at, reading_in, reading}
use Rattle.refusal.specs.Examples.{day_a, week_a}
use Rattle.tally.specs.Tally.{put_number, take_number, after_call, shown_of}
use Rattle.tallyruns.specs.Examples.{answers_by, run}

pub run-old : answers_by day_a (reading (new_old 0) day_a) run ≡ run
unfolding
    none_above group_fault claim_fault records_from count_fault section_at claims_at reading_in parent_of written_of limit_of card_node shop_node
    sum is same every steps walk chain lowered plus load fits on_side on_both fits_both
    minus put_number take_number after_call shown_of ℕ_discrete dec_lt
run-old = refl

pub run-week : answers_by week_a (reading (new_week 6) week_a) run ≡ run
unfolding
    none_above group_fault claim_fault records_from count_fault section_at claims_at reading_in parent_of written_of limit_of card_node shop_node
    sum is same every steps walk chain lowered plus load fits on_side on_both fits_both
    minus put_number take_number after_call shown_of ℕ_discrete dec_lt
run-week = refl
