-- A file in the week layout (document 02, E9). What an accepted file holds is written there, so it is read back: the same groups, with the same
-- limits on every day, and the same claims. So an old-layout file acts as the week file in which each of its limits is written seven times.
--   contents-ranged contents-proper    what an accepted file holds is within range, and of a new file proper
--   week-accepted          the week file is accepted, new or stored as the file is
--   week-group week-claim  it has the same groups on each day, and the same claims
--   week-day               so on each day it holds the same day
--   week-bytes             its numbers are bytes
use mathlib.Core.Path.{◌≡◌, refl, sym, ap, ◌∙◌}
use mathlib.Core.List.{List}
use Prim.Native.Nat.{ℕ, zero, suc, ◌+◌, ◌*◌, ◌≤◌, ◌<◌}
use native.Mathlib.Decide.{dec_lt}
use native.Mathlib.Omega.{arith}
use lib.ListN.{length, get_or, drop, length-drop, get_or-eq_default}
use Rattle.claimfile.specs.File.{first_terms, days, column_of, claim_width, word, record_at, claim_at}
use Rattle.reader.specs.Reading.{reading}
use Rattle.claimfile.specs.Day.{count_of, group_of, claim_of, instance_of, on_day}
use Rattle.claimfile.specs.Sound.{Sound, Kinds, NoneAbove}
use Rattle.claimwriter.specs.Written.{Contents, records_on, TwoSided, Ranged, Proper}
use Rattle.claimwriter.specs.Week.{week_form, contents_in, as_week, week_layout}
use Rattle.claimfile.specs.declared.Form.{Form}
use Rattle.claimfile.specs.declared.Layout.{Layout}
use Rattle.reader.proofs.AcceptedLaws.{accepted-day, accepted-sound, accepted-kinds, new-below}
use Rattle.claimfile.proofs.DayLaws.{word_small}
use Rattle.claimwriter.proofs.WrittenLaws.{written-accepted, written-group, written-claim, written-bytes}
use Rattle.claimfile.proofs.SameLaws.{same-day}
use Rattle.std.specs.Prelude.{Ok}

module _ (s : List ℕ) (l : Layout) where
  abbrev d : Contents
  d = contents_in s l

  two-sided : TwoSided d
  two-sided n g = refl

  count-of : (side : ℕ) → records_on d side ≡ count_of l side
  count-of zero = refl
  count-of (suc n) = refl

  -- the record of a group on a day, by its parts
  on-day :
      (k side g : ℕ) →
      group_of s (on_day l k) side g ≡ record { parent = (group_of s l side g).parent; limit = (group_of s (on_day l k) side g).limit }
  on-day k zero g = refl
  on-day k (suc n) g = refl

  module _ (sound : Sound s l) (two : Kinds first_terms s l) (bytes : (i : ℕ) → get_or s i 0 < 256) where
    limit-most : (k side g : ℕ) → (group_of s (on_day l k) side g).limit ≤ 65535
    limit-most k zero g = omega (arith, word_small s bytes (record_at l.week l.card_at g + 2 + 2 * column_of l.week k))
    limit-most k (suc n) g = omega (arith, word_small s bytes (record_at l.week l.shop_at g + 2 + 2 * column_of l.week k))

    pub contents-ranged : Ranged (contents_in s l)
    contents-ranged = record {
      sides = two-sided;
      cards_most = sound.cards_most;
      shops_most = sound.shops_most;
      rows_most = sound.rows_most;
      parents = λ side g h. sound.parents side g (omega (arith, count-of side));
      limits = λ k side g small h. limit-most k side g;
      claim_cards = sound.row_cards;
      claim_shops = sound.row_shops;
      claim_kinds = λ c h. omega (arith, two c h);
    }

    pub contents-proper : NoneAbove s l → Proper (contents_in s l)
    contents-proper none = record {
      ranged = contents-ranged;
      below = λ k side g small h up. none k side g (omega (arith, count-of side)) up;
    }

byte_past : (r : List ℕ) (i : ℕ) → length r ≤ i → get_or r i 0 ≡ 0
byte_past r i h = get_or-eq_default r 0 h

word-past : (r : List ℕ) (i : ℕ) → length r ≤ i → word r i ≡ 0
word-past r i h = omega (arith, byte_past r i h, byte_past r (i + 1) (omega arith))

module _ (f : Form) (s : List ℕ) (l : Layout) (is : reading f s ≡ Ok l) (bytes : (i : ℕ) → get_or s i 0 < 256) where
  abbrev t : List ℕ
  t = as_week s l

  abbrev m : Layout
  m = week_layout l

  sound : Sound s l
  sound = accepted-sound f s l is

  two : Kinds first_terms s l
  two = accepted-kinds f s l is

  ranged : Ranged (contents_in s l)
  ranged = contents-ranged s l sound two bytes

  pub week-accepted : reading (week_form f) (as_week s l) ≡ Ok (week_layout l)
  unfolding as_week
  week-accepted =
      written-accepted (contents_in s l) ranged f.stored f.day
      (λ new. contents-proper s l sound two bytes (new-below f s l is new))
      ∙ ap (λ k. Ok (on_day (week_layout l) k)) (sym (accepted-day f s l is))

  pub week-bytes : (i : ℕ) → get_or (as_week s l) i 0 < 256
  unfolding as_week
  week-bytes = written-bytes (contents_in s l) ranged

  pub week-group :
      (k side g : ℕ) → k < days → g < count_of l side → group_of s (on_day l k) side g ≡ group_of (as_week s l) (on_day (week_layout l) k) side g
  unfolding as_week
  week-group k side g small h =
      on-day s l k side g
      ∙ sym (written-group (contents_in s l) (two-sided s l) k side g small (omega (arith, count-of s l side)))

  week-row : (c : ℕ) → c < l.rows → claim_of s l c ≡ claim_of t m c
  unfolding as_week
  week-row c h = sym (written-claim (contents_in s l) c h)

  -- a row past the last has no bytes in either file
  no-claim : (r : List ℕ) (c : ℕ) → length r ≤ claim_width * c → claim_at r c ≡ record { card = 0; shop = 0; kind = 0 }
  no-claim r c past =
      rw (
        word-past r (claim_width * c) past,
        word-past r (claim_width * c + 2) (omega arith),
        byte_past r (claim_width * c + 4) (omega arith),
      )

  pub week-claim : (c : ℕ) → claim_of s l c ≡ claim_of (as_week s l) (week_layout l) c
  week-claim c =
      elim (dec_lt c l.rows) [
        | yes h ↦ week-row c h
        | no h ↦
            no-claim (drop l.row_at s) c (omega (arith, length-drop l.row_at s, sound.size, sound.row_place))
            ∙ sym
            (no-claim (drop m.row_at t) c
            (omega (arith, length-drop m.row_at t, week-sound.size, week-sound.row_place)))
      ]
    where
      week-sound : Sound t m
      week-sound = accepted-sound (week_form f) t m week-accepted

  -- on each day it holds the same day
  pub week-day : (k : ℕ) → k < days → instance_of s (on_day l k) ≡ instance_of (as_week s l) (on_day (week_layout l) k)
  week-day k small = same-day s (on_day l k) t _ _ _ _ _ groups week-claim
    where
      groups : (side g : ℕ) → g < count_of (on_day l k) side → group_of s (on_day l k) side g ≡ group_of t (on_day m k) side g
      groups zero g h = week-group k 0 g small h
      groups (suc n) g h = week-group k (suc n) g small h
