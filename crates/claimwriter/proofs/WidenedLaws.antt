-- A file in the old layout and its widening (document 02, E9): "Old-layout files .. act as ones with the same limit on seven
-- days." What is told of the one is told of the other: it is accepted, or it is refused for the same reason.
--   claims-alike           the claims of two files with the same rest from their counts on have the same count and the same fault
--   after-claims after-shops after-cards   the reading of the file and of its widening, from a section on
--   widened-reading        what is told of a file is told of its widening, of any list of numbers
--   widened-refused        so both are refused, by the same fault, or none is
--   word_held claim-held   bytes that are read are those that are written again
--   side-widened rows-copied   the three sections of the widening of an accepted file
--   widened-week           it is the file in the week layout, of which the laws of WeekLaws speak
use mathlib.Core.Path.{◌≡◌, refl, sym, ap, ap₂, ◌∙◌, subst}
use mathlib.Core.Bool.{Bool, true, false}
use mathlib.Core.Logic.{◌↔◌}
use mathlib.Core.List.{List, [], ◌∷◌, ◌++◌, append_assoc}
use Prim.Native.Nat.{ℕ, zero, suc, ◌+◌, ◌*◌, ◌-◌, ◌≤◌, ◌<◌, zero-le}
use native.Mathlib.Decide.{dec_lt}
use native.Mathlib.Omega.{arith}
use lib.ListN.{length, get_or, drop, length-drop}
use lib.Seq.{get_or-drop, drop-drop, ext_get_or}
use lib.Dec.{ltb}
use borrow.Author.Tests.{lt-ltb, le-ltb}
use Rattle.theory.specs.Bounds.{max_rows}
use Rattle.claimfile.specs.File.{first_terms, column_of, group_width, claim_width, word, limit_at, record_at, claim_at}
use Rattle.reader.specs.Reading.{or_else, rows_from, Checked, Reading}
use Rattle.reader.specs.Reading.{count_fault, section_of, section_at, claims_at, after_cards, after_shops, after_claims}
use Rattle.reader.specs.Reading.{reading_in, reading}
use Rattle.claimfile.specs.Day.{claim_of}
use Rattle.claimfile.specs.Sound.{Sound}
use Rattle.claimwriter.specs.Written.{week_group, bytes_of, group_bytes, claim_bytes, section, file_bytes}
use Rattle.claimwriter.specs.Put.{Holds, count_place}
use Rattle.claimwriter.specs.Week.{week_form, as_week}
use Rattle.claimwriter.specs.Widened.{widen_section, widened, widened_by}
use Rattle.claimfile.specs.declared.Form.{Form}
use Rattle.reader.specs.declared.Refusal.{Refusal}
use Rattle.reader.specs.declared.Refusal.TheVariants.{ClaimCount}
use Rattle.claimfile.specs.declared.Layout.{Layout}
use Rattle.reader.proofs.AcceptedLaws.{not-both, accepted-week, accepted-sound, accepted-rows}
use Rattle.reader.proofs.SectionLaws.{word-part, cut-part}
use Rattle.claimwriter.proofs.PutLaws.{same-cell, holds-append}
use Rattle.claimwriter.proofs.WrittenLaws.{section-length, holds-section}
use Rattle.claimwriter.proofs.CountsLaws.{count-stands}
use Rattle.claimwriter.proofs.AlikeLaws.{section-whole, section-alike, Follows, groups_checked, groups-alike, follows-groups}
use Rattle.std.specs.Prelude.{Ok, Err}

--------------------------------------------------------------------------------
-- The claims

-- the first fault of the claims section whose count stands at a place
abbrev claims_checked : List ℕ → ℕ → ℕ → ℕ → Checked
claims_checked s a cards shops = or_else (count_fault s a max_rows ClaimCount) (rows_from first_terms (drop (a + 2) s) cards shops 0 (word s a))

module _ (s : List ℕ) (a : ℕ) (t : List ℕ) (b : ℕ) (follows : Follows (λ r. r) s a t b) where
  same : drop a s ≡ drop b t
  same = sym follows.part

  left-alike : length s - a ≡ length t - b
  left-alike = sym (length-drop a s) ∙ ap length same ∙ length-drop b t

  claims-alike :
      (cards shops : ℕ) → claims_at first_terms t b cards shops ≡ section_of (claims_checked s a cards shops) (word s a) (b + 2) claim_width
  unfolding claims_at
  claims-alike cards shops =
      section-alike s a t b max_rows ClaimCount claim_width _ _
      (cut-part s a follows.inside 2 (a + 2) refl
      ∙ ap (λ (r : List ℕ). ltb (length r) 2) same
      ∙ sym (cut-part t b follows.room 2 (b + 2) refl))
      (λ whole. (count, ap₂ (λ r n. rows_from first_terms r cards shops 0 n) rest count))
    where
      count : word s a ≡ word t b
      count = word-part s a 0 a (omega arith) ∙ ap (λ (r : List ℕ). word r 0) same ∙ sym (word-part t b 0 b (omega arith))

      rest : drop (a + 2) s ≡ drop (b + 2) t
      rest = sym (drop-drop 2 a s) ∙ ap (drop 2) same ∙ drop-drop 2 b t

--------------------------------------------------------------------------------
-- The file, from its last section to its first

module _ (stored : Bool) (day : ℕ) (s t : List ℕ) where
  abbrev old : Form
  old = record { week = false; stored = stored; day = day }

  abbrev new : Form
  new = record { week = true; stored = stored; day = day }

  after-claims :
      (cards shops card_at shop_at shop_at' a b : ℕ) → Follows (λ r. r) s a t b → shop_at' ≡ 4 + 16 * cards →
      b ≡ 4 + 16 * (cards + shops) →
      after_claims new t cards shops 2 shop_at' (claims_at first_terms t b cards shops)
      ≡ widened_by (after_claims old s cards shops card_at shop_at (claims_at first_terms s a cards shops))
  unfolding claims_at
  after-claims cards shops card_at shop_at shop_at' a b follows shops-place place =
      ap (after_claims new t cards shops 2 shop_at') (claims-alike s a t b follows cards shops)
      ∙ told (claims_checked s a cards shops)
    where
      rows : ℕ
      rows = word s a

      laid : ℕ → ℕ → Reading
      laid p q =
          Ok
          (record {
            week = true;
            day = day;
            cards = cards;
            shops = shops;
            rows = rows;
            card_at = 2;
            shop_at = p;
            row_at = q;
          })

      told :
          (x : Checked) →
          after_claims new t cards shops 2 shop_at' (section_of x rows (b + 2) claim_width)
          ≡ widened_by (after_claims old s cards shops card_at shop_at (section_of x rows (a + 2) claim_width))
      told (Err why) = refl
      told (Ok _) =
          elim (dec_lt (a + 2 + claim_width * rows) (length s)) [
            | yes more ↦
                let there : b + 2 + claim_width * rows < length t = omega (arith, left-alike s a t b follows, follows) in
                rw (lt-ltb _ _ more, lt-ltb _ _ there)
            | no h ↦
                let here : length s ≤ a + 2 + claim_width * rows = omega arith in
                let there : length t ≤ b + 2 + claim_width * rows = omega (arith, left-alike s a t b follows, follows) in
                rw (le-ltb _ _ here, le-ltb _ _ there) (ap₂ laid shops-place (omega arith))
          ]

  after-shops :
      (cards card_at a b : ℕ) → Follows (widen_section (λ r. r)) s a t b → b ≡ 2 + 16 * cards →
      after_shops first_terms new t cards 2 (section_at new t b) ≡ widened_by (after_shops first_terms old s cards card_at (section_at old s a))
  unfolding section_at
  after-shops cards card_at a b follows place =
      ap (after_shops first_terms new t cards 2) (groups-alike stored day (λ r. r) s a t b follows) ∙ told (groups_checked old s a) refl
    where
      shops : ℕ
      shops = word s a

      told :
          (x : Checked) → groups_checked old s a ≡ x →
          after_shops first_terms new t cards 2 (section_of x shops (b + 2) 16)
          ≡ widened_by (after_shops first_terms old s cards card_at (section_of x shops (a + 2) 4))
      told (Err why) e = refl
      told (Ok _) e =
          after-claims cards shops card_at (a + 2) (b + 2) (a + 2 + 4 * shops) (b + 2 + 16 * shops)
          (follows-groups stored day (λ r. r) s a t b follows e) (omega arith) (omega arith)

  after-cards :
      Follows (widen_section (widen_section (λ r. r))) s 0 t 0 →
      after_cards first_terms new t (section_at new t 0) ≡ widened_by (after_cards first_terms old s (section_at old s 0))
  unfolding section_at
  after-cards follows =
      ap (after_cards first_terms new t) (groups-alike stored day (widen_section (λ r. r)) s 0 t 0 follows)
      ∙ told (groups_checked old s 0) refl
    where
      cards : ℕ
      cards = word s 0

      told :
          (x : Checked) → groups_checked old s 0 ≡ x →
          after_cards first_terms new t (section_of x cards 2 16) ≡ widened_by (after_cards first_terms old s (section_of x cards 2 4))
      told (Err why) e = refl
      told (Ok _) e =
          after-shops cards 2 (2 + 4 * cards) (2 + 16 * cards)
          (follows-groups stored day (widen_section (λ r. r)) s 0 t 0 follows e) refl

-- "Old-layout files, new or stored, .. act as ones with the same limit on seven days", of any list of numbers
pub widened-reading : (f : Form) (s : List ℕ) → f.week ≡ false → reading (week_form f) (widened s) ≡ widened_by (reading f s)
unfolding reading_in widened
widened-reading f s old =
    after-cards f.stored f.day s (widened s) (record { part = refl; inside = zero-le; room = zero-le })
    ∙ ap (λ w. widened_by (reading (record { week = w; stored = f.stored; day = f.day }) s)) (sym old)

-- the number that is told is the same
pub widened-refused :
    (f : Form) (s : List ℕ) (why : Refusal) → f.week ≡ false →
    (reading f s ≡ Err why) ↔ (reading (week_form f) (widened s) ≡ Err why)
widened-refused f s why old = (λ e. told ∙ ap widened_by e, λ e. back (reading f s) (sym told ∙ e))
  where
    told : reading (week_form f) (widened s) ≡ widened_by (reading f s)
    told = widened-reading f s old

    back : (x : Reading) → widened_by x ≡ Err why → x ≡ Err why
    back (Ok l) e = not-both (widened_by (Ok l)) _ why refl e
    back (Err v) e = e

--------------------------------------------------------------------------------
-- The widening of an accepted file is its week file

module _ (s : List ℕ) (bytes : (i : ℕ) → get_or s i 0 < 256) where
  -- a number that is read from two bytes is written as those
  word_held : (at : ℕ) → Holds s at (bytes_of (word s at))
  word_held at zero h = omega (arith, bytes at, same-cell s (at + 0) at (omega arith))
  word_held at (suc zero) h = omega (arith, bytes at)
  word_held at (suc (suc j)) h = absurd (omega arith)

  claim-held : (c : ℕ) → Holds s (claim_width * c) (claim_bytes (claim_at s c))
  claim-held c =
      let at = claim_width * c in
      holds-append s at (bytes_of (word s at) ++ bytes_of (word s (at + 2))) (get_or s (at + 4) 0 ∷ []) (at + 4) refl
      (holds-append s at (bytes_of (word s at)) (bytes_of (word s (at + 2))) (at + 2) refl (word_held at) (word_held (at + 2)))
      kind
    where
      kind : Holds s (claim_width * c + 4) (get_or s (claim_width * c + 4) 0 ∷ [])
      kind zero h = same-cell s (claim_width * c + 4 + 0) (claim_width * c + 4) (omega arith)
      kind (suc j) h = absurd (omega arith)

module _ (f : Form) (s : List ℕ) (l : Layout) (old : f.week ≡ false) (is : reading f s ≡ Ok l) where
  sound : Sound s l
  sound = accepted-sound f s l is

  in-old : l.week ≡ false
  in-old = accepted-week f s l is ∙ old

  wide-old : (n : ℕ) → group_width l.week * n ≡ 4 * n
  wide-old n = ap (λ (w : Bool). group_width w * n) in-old

  -- the record of group g in the week layout, of a side in either layout whose records start at a place
  abbrev group_by : Bool → ℕ → ℕ → List ℕ
  group_by w start g = group_bytes (week_group (word s (record_at w start g)) (λ k. limit_at s (record_at w start g) (column_of w k)))

  side-widened :
      (next : List ℕ → List ℕ) (a count start : ℕ) → word s a ≡ count → a + 2 ≡ start → start + 4 * count ≤ length s →
      widen_section next (drop a s) ≡ section count (group_by l.week start) ++ next (drop (start + 4 * count) s)
  side-widened next a count start counted place within =
      section-whole next s a (omega arith)
      ∙ ap₂ (λ m p. section m (group_by false p) ++ next (drop (p + 4 * m) s)) counted place
      ∙ ap (λ w. section count (group_by w start) ++ next (drop (start + 4 * count) s)) (sym in-old)

  -- where the three sections stand
  places :
      (l.card_at ≡ 2) × (l.shop_at ≡ l.card_at + 4 * l.cards + 2) × (l.row_at ≡ l.shop_at + 4 * l.shops + 2)
      × (length s ≡ l.row_at + claim_width * l.rows)
  places = omega (arith, sound, wide-old l.cards, wide-old (l.cards + l.shops))

  card-count : word s 0 ≡ l.cards
  card-count =
      let place : 0 ≡ count_place l 0 = omega (arith, places) in
      ap (word s) place ∙ count-stands f s l is 0 (omega arith)

  shop-count : word s (l.card_at + 4 * l.cards) ≡ l.shops
  shop-count =
      let place : l.card_at + 4 * l.cards ≡ count_place l 1 = omega (arith, places) in
      ap (word s) place ∙ count-stands f s l is 1 (omega arith)

  row_count : word s (l.shop_at + 4 * l.shops) ≡ l.rows
  row_count =
      let place : l.shop_at + 4 * l.shops ≡ l.row_at - 2 = omega (arith, places) in
      ap (word s) place ∙ accepted-rows f s l is

  module _ (bytes : (i : ℕ) → get_or s i 0 < 256) where
    rows-copied :
        drop (l.shop_at + 4 * l.shops) s ≡ section l.rows (λ c. claim_bytes (claim_of s l c))
    rows-copied =
        ext_get_or 0 (drop at s) (section l.rows claim) (omega (arith, length-drop at s, long, places))
        (λ i h. get_or-drop at s i 0 ∙ held i (omega (arith, length-drop at s, long, places)))
      where
        at : ℕ
        at = l.shop_at + 4 * l.shops

        claim : ℕ → List ℕ
        claim c = claim_bytes (claim_of s l c)

        long : length (section l.rows claim) ≡ 2 + claim_width * l.rows
        long = section-length claim_width l.rows claim (λ c. refl)

        each : (c : ℕ) → c < l.rows → Holds s (l.row_at + claim_width * c) (claim c)
        each c m j h =
            same-cell s (l.row_at + claim_width * c + j) (l.row_at + (claim_width * c + j)) (omega arith)
            ∙ sym (get_or-drop l.row_at s (claim_width * c + j) 0)
            ∙ claim-held (drop l.row_at s) (λ i. omega (arith, get_or-drop l.row_at s i 0, bytes (l.row_at + i))) c j h

        held : Holds s at (section l.rows claim)
        held =
            holds-section claim_width l.rows claim (λ c. refl) s at l.row_at (omega (arith, places))
            (subst (λ n. Holds s at (bytes_of n)) row_count (word_held s bytes at)) each

    pub widened-week : widened s ≡ as_week s l
    unfolding widened as_week file_bytes
    widened-week =
        side-widened (widen_section (λ r. r)) 0 l.cards l.card_at card-count (omega (arith, places))
        (omega (arith, places))
        ∙ ap (λ x. cards-as ++ x)
        (side-widened (λ r. r) (l.card_at + 4 * l.cards) l.shops l.shop_at shop-count (omega (arith, places))
        (omega (arith, places))
        ∙ ap (λ x. shops-as ++ x) rows-copied)
        ∙ sym (append_assoc cards-as shops-as (section l.rows (λ c. claim_bytes (claim_of s l c))))
      where
        cards-as : List ℕ
        cards-as = section l.cards (group_by l.week l.card_at)

        shops-as : List ℕ
        shops-as = section l.shops (group_by l.week l.shop_at)
