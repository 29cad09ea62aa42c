-- Laws of the three counts of an accepted file: each stands before the first record of its section, where `put_counts` puts it, and in the
-- week layout they give the whole layout.
--   count-stands           the count of a side
--   counts-within          a new file in the week layout has room for its counts
--   cards-read shops-read rows-read    they are read where the counts before them say
--   layout-read            the layout that was read is the one for these counts
use mathlib.Core.Bool.{Bool, true}
use mathlib.Core.Path.{◌≡◌, refl, sym, ap, ◌∙◌}
use mathlib.Core.List.{List}
use Prim.Native.Nat.{ℕ, ◌+◌, ◌*◌, ◌≤◌, ◌<◌}
use native.Mathlib.Omega.{arith}
use lib.ListN.{length}
use Rattle.claimfile.specs.File.{new_week, group_width, word}
use Rattle.claimfile.specs.Day.{start_of, count_of, on_day}
use Rattle.claimfile.specs.Sound.{Sound}
use Rattle.claimfile.specs.declared.Form.{Form}
use Rattle.claimfile.specs.declared.Layout.{Layout}
use Rattle.reader.specs.Reading.{reading}
use Rattle.reader.specs.Sections.{place_on}
use Rattle.reader.proofs.AcceptedLaws.{section-read, accepted-week, accepted-day, accepted-sections, accepted-sound, accepted-rows}
use Rattle.claimwriter.specs.Written.{layout_for}
use Rattle.claimwriter.specs.Put.{count_place, row_count_place}
use Rattle.std.specs.Prelude.{Ok}

pub count-stands :
    (f : Form) (s : List ℕ) (l : Layout) → reading f s ≡ Ok l → (side : ℕ) → side < 2 →
    word s (count_place l side) ≡ count_of l side
count-stands f s l is side few =
    let taken = section-read s (place_on f s side) (count_of l side) (start_of l side) _ f (accepted-sections f s l is side few) in
    let place : count_place l side ≡ place_on f s side = omega (arith, taken.place) in
    ap (word s) place ∙ sym taken.counted

-- the counts of a new file in the week layout, read one after the other
module _ (day : ℕ) (s : List ℕ) (l : Layout) (is : reading (new_week day) s ≡ Ok l) where
  sound : Sound s l
  sound = accepted-sound (new_week day) s l is

  in-week : (n : ℕ) → group_width l.week * n ≡ 16 * n
  in-week n = ap (λ (w : Bool). group_width w * n) (accepted-week (new_week day) s l is)

  shop_place : 4 + 16 * l.cards ≡ l.shop_at
  shop_place = omega (arith, sound.shop_place, in-week l.cards)

  row_place : 6 + 16 * (l.cards + l.shops) ≡ l.row_at
  row_place = omega (arith, sound.row_place, in-week (l.cards + l.shops))

  pub counts-within : 6 + 16 * (l.cards + l.shops) ≤ length s
  counts-within = omega (arith, sound.size, in-week (l.cards + l.shops))

  pub cards-read : (a : ℕ) → a ≡ word s 0 → a ≡ l.cards
  cards-read a e =
      let place : 0 ≡ count_place l 0 = omega (arith, sound.card_place) in
      e ∙ ap (word s) place ∙ count-stands (new_week day) s l is 0 (omega arith)

  pub shops-read : (a b : ℕ) → a ≡ l.cards → b ≡ word s (2 + 16 * a) → b ≡ l.shops
  shops-read a b cards e =
      let place : 2 + 16 * a ≡ count_place l 1 = omega (arith, cards, shop_place) in
      e ∙ ap (word s) place ∙ count-stands (new_week day) s l is 1 (omega arith)

  pub rows-read : (a b r : ℕ) → a ≡ l.cards → b ≡ l.shops → r ≡ word s (4 + 16 * (a + b)) → r ≡ l.rows
  rows-read a b r cards shops e =
      let place : 4 + 16 * (a + b) ≡ row_count_place l = omega (arith, cards, shops, row_place) in
      e ∙ ap (word s) place ∙ accepted-rows (new_week day) s l is

  pub layout-read : (a b r : ℕ) → a ≡ l.cards → b ≡ l.shops → r ≡ l.rows → on_day (layout_for a b r) day ≡ l
  layout-read a b r cards shops rows =
      let week : true ≡ l.week = sym (accepted-week (new_week day) s l is) in
      let today : day ≡ l.day = sym (accepted-day (new_week day) s l is) in
      let card-start : 2 ≡ l.card_at = sym sound.card_place in
      let shop-start : 4 + 16 * a ≡ l.shop_at = omega (arith, cards, shop_place) in
      let row-start : 6 + 16 * (a + b) ≡ l.row_at = omega (arith, cards, shops, row_place) in
      let whole : on_day l l.day ≡ l = refl in
      cc
