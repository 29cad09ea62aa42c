-- Other claims behind the same group sections. A group section is read from its own bytes (SectionLaws). So a file t that has the bytes of an
-- accepted one up to the claim count has its groups, in every form, and it is accepted where its claims name them. What follows for its day is
-- in SameLaws.
--   rows-place rows-past rows_end  where the claims of an accepted file stand, past their count, and where they end
--   claims-accepted            t is accepted, with n claims in the place of those of the other file
--   same-group                 the records of its groups are the same
use mathlib.Core.Path.{◌≡◌, refl, sym, ap, ap₂, ◌∙◌}
use mathlib.Core.Bool.{Bool}
use mathlib.Core.List.{List}
use Prim.Native.Nat.{ℕ, zero, suc, ◌+◌, ◌*◌, ◌<◌, ◌≤◌}
use native.Mathlib.Omega.{arith}
use lib.ListN.{length, drop, length-drop}
use Rattle.theory.specs.Bounds.{max_rows}
use Rattle.claimfile.specs.File.{first_terms, column_of, group_width, claim_width, word}
use Rattle.reader.specs.Reading.{read_section, claim_fault, rows_from, Reading}
use Rattle.reader.specs.Reading.{section_at, claims_at, reading}
use Rattle.reader.specs.Sections.{behind, place_on, OwnBytes, with_rows}
use Rattle.claimfile.specs.Day.{count_of, group_of, claims, claim_of, named_card, named_shop, kind_of}
use Rattle.claimfile.specs.Sound.{Sound}
use Rattle.claimwriter.specs.Put.{row_count_place}
use Rattle.claimfile.specs.declared.Form.{Form}
use Rattle.reader.specs.declared.Refusal.TheVariants.{ClaimCount}
use Rattle.claimfile.specs.declared.Layout.{Layout}
use Rattle.reader.proofs.FileLaws.{claim-passes, records-pass, accepted}
use Rattle.claimfile.proofs.WidthLaws.{width-split, width-inside, column-small}
use Rattle.reader.proofs.AcceptedLaws.{accepted-week, accepted-day, accepted-sections, accepted-sound}
use Rattle.reader.proofs.SectionLaws.{group-own, section-own}
use Rattle.claimwriter.proofs.PutLaws.{same-cell}
use Rattle.claimwriter.proofs.WrittenLaws.{section-passes}
use Rattle.std.specs.Prelude.{Ok}

-- the same places
abbrev placed : Bool → ℕ → Layout → ℕ → ℕ → ℕ → ℕ → Reading
placed week day l n a b c =
    Ok
    (record {
      week = week;
      day = day;
      cards = l.cards;
      shops = l.shops;
      rows = n;
      card_at = a;
      shop_at = b;
      row_at = c;
    })

layout-same :
    (l : Layout) (n : ℕ) (v w : Bool) (d e a b c x y z : ℕ) → v ≡ w → d ≡ e → a ≡ x → b ≡ y → c ≡ z →
    placed v d l n a b c ≡ placed w e l n x y z
layout-same l n v w d e a b c x y z o m p q r = rw (o, m, p, q, r)

module _ (f : Form) (s : List ℕ) (l : Layout) (is : reading f s ≡ Ok l) where
  sound : Sound s l
  sound = accepted-sound f s l is

  -- the bytes of n group records
  wide_is : (n : ℕ) → group_width l.week * n ≡ group_width f.week * n
  wide_is n = ap (λ (w : Bool). group_width w * n) (accepted-week f s l is)

  -- the claims stand behind the shop groups and their own count
  rows-place : l.row_at ≡ l.shop_at + group_width l.week * l.shops + 2
  rows-place = omega (arith, sound.row_place, sound.shop_place, width-split l.week l.cards l.shops)

  pub rows-past : 2 ≤ l.row_at
  rows-past = omega (arith, rows-place)

  pub rows_end : length s ≡ l.row_at + claim_width * l.rows
  rows_end = omega (arith, sound.row_place, sound.size)

  -- and the shop groups behind the card groups and their count
  shops-place : l.shop_at ≡ l.card_at + group_width l.week * l.cards + 2
  shops-place = omega (arith, sound.card_place, sound.shop_place)

  module _ (t : List ℕ) (own : OwnBytes s 0 t 0 (row_count_place l)) (n : ℕ) where
    abbrev m : Layout
    m = with_rows l n

    own-from : (a k : ℕ) → a + k ≤ row_count_place l → OwnBytes s a t a k
    own-from a k h i j =
        same-cell s (a + i) (0 + (a + i)) (omega arith) ∙ own (a + i) (omega arith) ∙ same-cell t (0 + (a + i)) (a + i) (omega arith)

    pub same-group : (side g : ℕ) → g < count_of l side → group_of s l side g ≡ group_of t m side g
    same-group zero g h =
        let w = l.week in
        group-own s t 0 0 (2 + group_width w * l.cards)
        (own-from 0 (2 + group_width w * l.cards) (omega (arith, sound.card_place, shops-place, rows-place))) w (column_of w l.day)
        l.card_at l.card_at g (column-small w l.day) sound.card_place sound.card_place
        (omega (arith, width-inside w g l.cards h))
    same-group (suc k) g h =
        let w = l.week in
        let at = l.card_at + group_width w * l.cards in
        group-own s t at at (2 + group_width w * l.shops)
        (own-from at (2 + group_width w * l.shops) (omega (arith, shops-place, rows-place))) w (column_of w l.day)
        l.shop_at l.shop_at g (column-small w l.day) shops-place shops-place (omega (arith, width-inside w g l.shops h))

    module _
        (few : n ≤ max_rows) (long : length t ≡ l.row_at + claim_width * n) (counted : word t (row_count_place l) ≡ n)
        (cards : (c : ℕ) → c < n → named_card t m c < l.cards) (shops : (c : ℕ) → c < n → named_shop t m c < l.shops)
        (kinds : (c : ℕ) → c < n → kind_of t m c ≤ 1)
      where
        -- the places behind the two group sections
        abbrev next : ℕ
        next = 0 + 2 + group_width f.week * l.cards

        abbrev after : ℕ
        after = next + 2 + group_width f.week * l.shops

        -- where the sections of the file stand
        places :
            (l.card_at ≡ 2) × (l.shop_at ≡ l.card_at + group_width f.week * l.cards + 2)
            × (l.row_at ≡ l.shop_at + group_width f.week * l.shops + 2)
        places =
            (sound.card_place, omega (arith, shops-place, wide_is l.cards), omega (arith, rows-place, wide_is l.shops))

        card-section : section_at f t 0 ≡ Ok (read_section l.cards (0 + 2) next)
        card-section =
            section-own f s t 0 0 l.cards l.card_at _ (accepted-sections f s l is 0 (omega arith))
            (own-from 0 (2 + group_width f.week * l.cards) (omega (arith, places)))
            (omega (arith, long, places))

        shop-section : section_at f t next ≡ Ok (read_section l.shops (next + 2) after)
        shop-section =
            let place : next ≡ place_on f s 1 =
            sym (ap behind (accepted-sections f s l is 0 (omega arith)) ∙ omega (arith, sound.card_place, wide_is l.cards)) in
            section-own f s t next next l.shops l.shop_at _
            (ap (section_at f s) place ∙ accepted-sections f s l is 1 (omega arith))
            (own-from next (2 + group_width f.week * l.shops) (omega (arith, places)))
            (omega (arith, long, places))

        behind-groups : after ≡ row_count_place l
        behind-groups = omega (arith, places)

        first-row : after + 2 ≡ l.row_at
        first-row = omega (arith, places)

        count-here : word t after ≡ n
        count-here = ap (word t) behind-groups ∙ counted

        rows-fine : rows_from first_terms (claims t m) l.cards l.shops 0 n ≡ Ok tt
        rows-fine =
            records-pass (length (claims t m)) 0 claim_width (λ c. claim_fault first_terms (claim_of t m c) l.cards l.shops) n
            (λ c h. omega (arith, long, length-drop l.row_at t))
            (λ c h. claim-passes first_terms (claim_of t m c) l.cards l.shops (cards c h) (shops c h) (omega (arith, kinds c h))) n 0
            (omega arith)

        claim-section : claims_at first_terms t after l.cards l.shops ≡ Ok (read_section n (after + 2) (after + 2 + claim_width * n))
        unfolding claims_at
        claim-section =
            section-passes t after max_rows ClaimCount claim_width _ n (after + 2) (after + 2 + claim_width * n)
            (omega (arith, long, first-row)) count-here few
            (ap₂ (λ (a k : ℕ). rows_from first_terms (drop a t) l.cards l.shops 0 k) first-row count-here ∙ rows-fine) refl refl

        pub claims-accepted : reading f t ≡ Ok m
        claims-accepted =
            accepted first_terms f t l.cards (0 + 2) next card-section l.shops (next + 2) after shop-section n (after + 2)
            (after + 2 + claim_width * n) claim-section (omega (arith, long, first-row))
            ∙ layout-same l n f.week l.week f.day l.day _ _ _ _ _ _ (sym (accepted-week f s l is))
            (sym (accepted-day f s l is)) (sym sound.card_place) (omega (arith, places)) first-row
