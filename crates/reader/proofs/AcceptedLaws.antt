-- Laws of an accepted file: `accepted-sound` says what holds of it. The others lead there.
--   one-layout not-both        a reading is accepted with one layout, and is not refused too
--   records-fine all_whole     what a run of records without a fault says of each, and of the room that they take
--   group-fine claim-fine      the fields of a group and of a claim without a fault
--   taken section-read section-fine    a section that was read
--   section_in accepted-sections    the group sections of an accepted file are those of its layout
--   accords-in                 what holds of a file that is accepted with K kinds. Under the first terms:
--   accepted-sound             an accepted file is sound
--   accepted-kinds             and its claims are of kind 0 or 1
--   accepted-week accepted-day its layout is the form's, and so is the day
--   accepted-rows              the count of its claims stands before the first of them
--   accepted-stored            it is accepted as a stored file too
--   accepted-on                and for every day
--   new-below                  in a new file no group's limit is above its parent's, on any day
--   longest                    it has at most 10,758 bytes
use mathlib.Core.Path.{◌≡◌, refl, sym, ap, ◌∙◌, subst}
use mathlib.Core.Bool.{false}
use mathlib.Core.Logic.{inl, inr}
use mathlib.Core.List.{List}
use Prim.Native.Nat.{ℕ, zero, suc, ◌+◌, ◌*◌, ◌-◌, ◌<◌, ◌≤◌}
use native.Mathlib.Decide.{ℕ_discrete, dec_lt}
use native.Mathlib.Numerals.{add-one}
use native.Mathlib.Nat.{sub-zero, mul-zero, mul-suc}
use native.Mathlib.Omega.{arith}
use lib.ListN.{length, drop, length-drop}
use borrow.Author.Tests.{lt-leb, le-leb}
use Rattle.theory.specs.Bounds.{max_groups, max_rows}
use Rattle.claimfile.specs.File.{first_terms, as_stored, for_day, top, columns, column_of, group_width, claim_width}
use Rattle.claimfile.specs.File.{word, limit_at, record_at, claim_at}
use Rattle.reader.specs.Reading.{read_section, none_above, group_fault, claim_fault, records_from, Checked, Reading}
use Rattle.reader.specs.Reading.{groups_from, rows_from, count_fault, section_of, section_by, section_at, claims_at, reading_in, reading}
use Rattle.reader.specs.Sections.{behind, section_on}
use Rattle.claimfile.specs.Day.{start_of, count_of, on_day}
use Rattle.claimfile.specs.Sound.{SmallerOrTop, Sound, Kinds, NoneAbove}
use Rattle.claimfile.specs.declared.Form.{Form}
use Rattle.reader.specs.declared.Refusal.{Refusal}
use Rattle.reader.specs.declared.Refusal.TheVariants.{GroupCount, ClaimCount, NoSuchGroup, Kind}
use Rattle.reader.specs.declared.Section.{Section}
use Rattle.claimfile.specs.declared.Layout.{Layout}
use Rattle.claimfile.specs.declared.Claim.{Claim}
use Rattle.theory.proofs.TestLaws.{either}
use Rattle.claimfile.proofs.WidthLaws.{width-most, width-split, column-small}
use Rattle.reader.proofs.FileLaws.{never, none_above_lem, group-bad, group-top, group-stored, group-above}
use Rattle.reader.proofs.FileLaws.{record_cut, record_fault, next-record, records-pass}
use Rattle.reader.proofs.FileLaws.{count-fine, section-fault, section-fits}
use Rattle.reader.proofs.FileLaws.{cards-fault, shops-fault, claims-fault, trailing, accepted}
use Rattle.std.specs.Prelude.{Ok, Err, Result}

pub one-layout : (x : Reading) (k l : Layout) → x ≡ Ok k → x ≡ Ok l → k ≡ l
one-layout x k l p q = cc

pub one-refusal : (x : Reading) (v w : Refusal) → x ≡ Err v → x ≡ Err w → v ≡ w
one-refusal x v w p q = cc

pub not-both : {A : Type 0} (x : Reading) (l : Layout) (why : Refusal) → x ≡ Ok l → x ≡ Err why → A
not-both x l why p q =
    let z : ◌≡◌ {A = ℕ} 0 1 = cc in
    absurd (omega arith)

--------------------------------------------------------------------------------
-- Records without a fault

-- record k lies within the bytes, and its fields have no fault
pub record FineRecord (size start width : ℕ) (fault : ℕ → Checked) (k : ℕ) : Type 0 where
  pub whole : start + width * k + width ≤ size
  pub fine : fault k ≡ Ok tt

module _ (size start width : ℕ) (fault : ℕ → Checked) (count : ℕ) where
  abbrev from : ℕ → Checked
  from k = records_from size start width fault k (count - k)

  record_fine : (k : ℕ) → k < count → from k ≡ Ok tt → FineRecord size start width fault k × (from (k + 1) ≡ Ok tt)
  record_fine k l e =
      elim (dec_lt size (start + width * k + width)) [
        | yes short ↦ never _ _ e (record_cut size start width fault count k l short)
        | no h ↦ judged (fault k) refl (omega arith)
      ]
    where
      judged :
          (x : Checked) → fault k ≡ x → start + width * k + width ≤ size →
          FineRecord size start width fault k × (from (k + 1) ≡ Ok tt)
      judged (Ok _) p whole =
          (record { whole = whole; fine = p }, sym (next-record size start width fault count k l whole p) ∙ e)
      judged (Err why) p whole = never _ _ e (record_fault size start width fault count k l whole why p)

  records-fine :
      records_from size start width fault 0 count ≡ Ok tt → (k : ℕ) → k < count → FineRecord size start width fault k
  records-fine begin k l = (record_fine k l (fine k (omega arith))).0
    where
      fine : (k : ℕ) → k ≤ count → from k ≡ Ok tt
      fine zero h = simp sub-zero begin
      fine (suc k) h = rw (← add-one) (record_fine k (omega arith) (fine k (omega arith))).1

-- the records end within the bytes where each of them does
all_whole :
    (size start width count : ℕ) → start ≤ size → ((k : ℕ) → k < count → start + width * k + width ≤ size) →
    start + width * count ≤ size
all_whole size start width zero first each = simp mul-zero (omega arith)
all_whole size start width (suc n) first each = rw mul-suc (omega (arith, each n (omega arith)))

-- the fields of a group without a fault
pub record FineGroup (f : Form) (s : List ℕ) (start own : ℕ) : Type 0 where
  parent : SmallerOrTop own (word s (record_at f.week start own))
  limits :
      f.stored ≡ false → word s (record_at f.week start own) < own → (k : ℕ) → k < columns f.week →
      limit_at s (record_at f.week start own) k ≤ limit_at s (record_at f.week start (word s (record_at f.week start own))) k

module _ (f : Form) (s : List ℕ) (start own : ℕ) where
  abbrev above : ℕ
  above = word s (record_at f.week start own)

  group-fine : group_fault f s start own ≡ Ok tt → FineGroup f s start own
  group-fine e = record { parent = parent; limits = limits }
    where
      parent : SmallerOrTop own above
      parent =
          elim (dec_lt above own) [
            | yes small ↦ inl small
            | no large ↦
                elim (ℕ_discrete above top) [
                  | yes is ↦ inr is
                  | no other ↦ never _ _ e (group-bad f s start own (omega arith) other)
                ]
          ]

      limits :
          f.stored ≡ false → above < own → (k : ℕ) → k < columns f.week →
          limit_at s (record_at f.week start own) k ≤ limit_at s (record_at f.week start above) k
      limits new small =
          elim (either (none_above s (record_at f.week start own) (record_at f.week start above) (columns f.week))) [
            | inl less ↦ none_above_lem s _ _ (columns f.week) less
            | inr more ↦ never _ _ e (group-above f s start own small new more)
          ]

  -- they have none in a stored file either
  fine-stored : FineGroup f s start own → group_fault (as_stored f) s start own ≡ Ok tt
  fine-stored fine =
      elim (dec_lt above own) [
        | yes small ↦ group-stored (as_stored f) s start own small refl
        | no h ↦
            elim fine.parent [
              | inl small ↦ absurd (h small)
              | inr is ↦ group-top (as_stored f) s start own (omega arith) is
            ]
      ]

-- the fields of a claim without a fault
record FineClaim (K : ℕ) (claim : Claim) (cards shops : ℕ) : Type 0 where
  card : claim.card < cards
  shop : claim.shop < shops
  kind : claim.kind < K

claim-fine : (K : ℕ) (claim : Claim) (cards shops : ℕ) → claim_fault K claim cards shops ≡ Ok tt → FineClaim K claim cards shops
unfolding claim_fault
claim-fine K claim cards shops e =
    elim (dec_lt claim.card cards) [
      | yes card ↦
          elim (dec_lt claim.shop shops) [
            | yes shop ↦
                elim (dec_lt claim.kind K) [
                  | yes kind ↦ record { card = card; shop = shop; kind = kind }
                  | no h ↦
                      let large : K ≤ claim.kind = omega arith in
                      never _ Kind e (rw (lt-leb _ _ card, lt-leb _ _ shop, le-leb _ _ large))
                ]
            | no h ↦
                let large : shops ≤ claim.shop = omega arith in
                never _ NoSuchGroup e (rw (lt-leb _ _ card, le-leb _ _ large))
          ]
      | no h ↦
          let large : cards ≤ claim.card = omega arith in
          never _ NoSuchGroup e (rw (le-leb _ _ large))
    ]

--------------------------------------------------------------------------------
-- A section that was read

one-section : (x y : Section) → ◌≡◌ {A = Result Section Refusal} (Ok x) (Ok y) → x ≡ y
one-section x y p = cc

pub never-read :
    {A : Type 0} (x : Result Section Refusal) (why : Refusal) (count start next : ℕ) → x ≡ Ok (read_section count start next) → x ≡ Err why → A
never-read x why count start next p q =
    let z : ◌≡◌ {A = ℕ} 0 1 = cc in
    absurd (omega arith)

-- its count stands at a place, its records have a width, and Each holds of each of them
pub record Taken (s : List ℕ) (at most width : ℕ) (Each : ℕ → ℕ → Type 0) (count start next : ℕ) : Type 0 where
  pub counted : count ≡ word s at
  pub place : start ≡ at + 2
  pub after : next ≡ at + 2 + width * count
  pub within : next ≤ length s
  pub small : count ≤ most
  pub each : (k : ℕ) → k < count → Each start k

module _ (s : List ℕ) (at most : ℕ) (over : Refusal) (width : ℕ) (checked : Checked) (count start next : ℕ) where
  -- where records without a fault lie within the file and Each holds of them
  taken :
      (Each : ℕ → ℕ → Type 0) →
      (checked ≡ Ok tt → (k : ℕ) → k < word s at → (at + 2 + width * k + width ≤ length s) × Each (at + 2) k) →
      section_by s at most over width checked ≡ Ok (read_section count start next) → Taken s at most width Each count start next
  taken Each records e = judged (count_fault s at most over) refl
    where
      told :
          at + 2 ≤ length s → word s at ≤ most → (x : Checked) → checked ≡ x →
          Ok (read_section count start next) ≡ section_of x (word s at) (at + 2) width → Taken s at most width Each count start next
      told whole small (Err why) f is = never-read (Ok (read_section count start next)) why count start next refl is
      told whole small (Ok _) f is =
          let same = one-section _ _ is in
          let counted : count ≡ word s at = ap (λ (x : Section). x.count) same in
          let place : start ≡ at + 2 = ap (λ (x : Section). x.start) same in
          let after : next ≡ at + 2 + width * word s at = ap (λ (x : Section). x.next) same in
          record {
            counted = counted;
            place = place;
            after = after ∙ ap (λ (n : ℕ). at + 2 + width * n) (sym counted);
            within =
                omega (arith, after, all_whole (length s) (at + 2) width (word s at) whole (λ k l. (records f k l).0));
            small = omega arith;
            each = λ k l. subst (λ (a : ℕ). Each a k) (sym place) (records f k (omega arith)).1;
          }

      judged : (x : Checked) → count_fault s at most over ≡ x → Taken s at most width Each count start next
      judged (Err why) f = never-read _ why count start next e (section-fault s at most over width checked why f)
      judged (Ok _) f =
          let fine = count-fine s at most over f in
          told fine.0 fine.1 checked refl (sym e ∙ section-fits s at most over width checked f)

  -- its records have no fault
  read-fine : section_by s at most over width checked ≡ Ok (read_section count start next) → checked ≡ Ok tt
  read-fine e = judged (count_fault s at most over) refl
    where
      told :
          (x : Checked) → checked ≡ x → Ok (read_section count start next) ≡ section_of x (word s at) (at + 2) width → checked ≡ Ok tt
      told (Ok _) f is = f
      told (Err why) f is = never-read (Ok (read_section count start next)) why count start next refl is

      judged : (x : Checked) → count_fault s at most over ≡ x → checked ≡ Ok tt
      judged (Err why) f = never-read _ why count start next e (section-fault s at most over width checked why f)
      judged (Ok _) f = told checked refl (sym e ∙ section-fits s at most over width checked f)

abbrev pub GroupFits : Form → List ℕ → ℕ → ℕ → Type 0
GroupFits f s start = FineGroup f s start

abbrev RowFits : ℕ → List ℕ → ℕ → ℕ → ℕ → ℕ → Type 0
RowFits K s cards shops start c = FineClaim K (claim_at (drop start s) c) cards shops

module _ (s : List ℕ) (at count start next : ℕ) where
  module _ (f : Form) (e : section_at f s at ≡ Ok (read_section count start next)) where
    abbrev wide : ℕ
    wide = group_width f.week

    abbrev checked : Checked
    checked = groups_from f s (at + 2) 0 (word s at)

    pub section-read : Taken s at max_groups (group_width f.week) (GroupFits f s) count start next
    unfolding section_at
    section-read =
        taken s at max_groups GroupCount wide checked count start next (GroupFits f s)
        (λ fine g l.
        let r = records-fine (length s) (at + 2) wide (group_fault f s (at + 2)) (word s at) fine g l in
        (r.whole, group-fine f s (at + 2) g r.fine))
        e

    -- none of its records has a fault
    pub section-fine :
        (g : ℕ) → g < word s at → FineRecord (length s) (at + 2) (group_width f.week) (group_fault f s (at + 2)) g
    unfolding section_at
    section-fine =
        records-fine (length s) (at + 2) wide (group_fault f s (at + 2)) (word s at)
        (read-fine s at max_groups GroupCount wide checked count start next e)

    -- it is read as a section of a stored file too
    section-stored : section_at (as_stored f) s at ≡ Ok (read_section count start next)
    unfolding section_at
    section-stored =
        let fine = read-fine s at max_groups GroupCount wide checked count start next e in
        let each = section-fine in
        let stored : groups_from (as_stored f) s (at + 2) 0 (word s at) ≡ Ok tt =
        records-pass (length s) (at + 2) wide (group_fault (as_stored f) s (at + 2)) (word s at) (λ g l. (each g l).whole)
        (λ g l. fine-stored f s (at + 2) g (group-fine f s (at + 2) g (each g l).fine)) (word s at) 0 (omega arith) in
        ap (section_by s at max_groups GroupCount wide) (stored ∙ sym fine) ∙ e

  claims-read :
      (K cards shops : ℕ) → claims_at K s at cards shops ≡ Ok (read_section count start next) →
      Taken s at max_rows claim_width (RowFits K s cards shops) count start next
  unfolding claims_at
  claims-read K cards shops =
      taken s at max_rows ClaimCount claim_width (rows_from K (drop (at + 2) s) cards shops 0 (word s at)) count start next
      (RowFits K s cards shops)
      (λ f c l.
      let r =
      records-fine (length (drop (at + 2) s)) 0 claim_width (λ c. claim_fault K (claim_at (drop (at + 2) s) c) cards shops)
      (word s at) f c l
      in
      (omega (arith, r.whole, length-drop (at + 2) s), claim-fine K (claim_at (drop (at + 2) s) c) cards shops r.fine))

--------------------------------------------------------------------------------
-- The file

-- the section of a side, by the layout
abbrev pub section_in : Layout → ℕ → Result Section Refusal
section_in l side = Ok (read_section (count_of l side) (start_of l side) (start_of l side + group_width l.week * count_of l side))

-- the day that a form names is no matter to its sections
section-day : (f : Form) (s : List ℕ) (at d : ℕ) → section_at (for_day f d) s at ≡ section_at f s at
unfolding section_at group_fault
section-day f s at d = refl

-- what holds of a file with K kinds that is accepted in a form
pub record Accords (K : ℕ) (f : Form) (s : List ℕ) (l : Layout) : Type 0 where
  pub week : l.week ≡ f.week
  pub day : l.day ≡ f.day
  pub sections : (side : ℕ) → side < 2 → section_on f s side ≡ section_in l side
  pub sound : Sound s l
  pub rows : word s (l.row_at - 2) ≡ l.rows
  pub kinds : Kinds K s l
  pub stored : reading_in K (as_stored f) s ≡ Ok l
  pub on : (d : ℕ) → reading_in K (for_day f d) s ≡ Ok (on_day l d)
  pub below : f.stored ≡ false → NoneAbove s l

-- three sections that were read, one behind the other, up to the end of the file
module _ (K : ℕ) (f : Form) (s : List ℕ) (cards card_at next shops shop_at after rows row_at end : ℕ) where
  abbrev l : Layout
  l = record {
    week = f.week;
    day = f.day;
    cards = cards;
    shops = shops;
    rows = rows;
    card_at = card_at;
    shop_at = shop_at;
    row_at = row_at;
  }

  accords :
      section_at f s 0 ≡ Ok (read_section cards card_at next) → section_at f s next ≡ Ok (read_section shops shop_at after) →
      Taken s after max_rows claim_width (RowFits K s cards shops) rows row_at end → length s ≤ end →
      reading_in K (as_stored f) s ≡ Ok l → ((d : ℕ) → reading_in K (for_day f d) s ≡ Ok (on_day l d)) → Accords K f s l
  accords cards-are shops-are taken h stored on =
      record {
        week = refl;
        day = refl;
        sections = sections;
        sound = sound;
        rows = counted;
        kinds = λ c m. (taken.each c m).kind;
        stored = stored;
        on = on;
        below = below;
      }
    where
      of_cards : Taken s 0 max_groups (group_width f.week) (GroupFits f s) cards card_at next
      of_cards = section-read s 0 cards card_at next f cards-are

      of_shops : Taken s next max_groups (group_width f.week) (GroupFits f s) shops shop_at after
      of_shops = section-read s next shops shop_at after f shops-are

      sections : (side : ℕ) → side < 2 → section_on f s side ≡ section_in l side
      sections zero few = cards-are ∙ ap (λ (n : ℕ). Ok (read_section cards card_at n)) (omega (arith, of_cards))
      sections (suc zero) few =
          ap (λ x. section_at f s (behind x)) cards-are ∙ shops-are ∙ ap (λ (n : ℕ). Ok (read_section shops shop_at n)) (omega (arith, of_shops))
      sections (suc (suc n)) few = absurd (omega arith)

      groups : (side g : ℕ) → g < count_of l side → FineGroup f s (start_of l side) g
      groups zero = of_cards.each
      groups (suc n) = of_shops.each

      below : f.stored ≡ false → NoneAbove s l
      below new d zero g m small = (of_cards.each g m).limits new small (column_of f.week d) (column-small f.week d)
      below new d (suc n) g m small = (of_shops.each g m).limits new small (column_of f.week d) (column-small f.week d)

      counted : word s (row_at - 2) ≡ rows
      counted =
          let before : row_at - 2 ≡ after = omega (arith, taken) in
          ap (word s) before ∙ sym taken.counted

      sound : Sound s l
      sound = record {
        card_place = omega (arith, of_cards);
        shop_place = omega (arith, of_cards, of_shops);
        row_place = omega (arith, of_cards, of_shops, taken, width-split f.week cards shops);
        size = omega (arith, of_cards, of_shops, taken, width-split f.week cards shops);
        cards_most = of_cards.small;
        shops_most = of_shops.small;
        rows_most = taken.small;
        parents = λ side g m. (groups side g m).parent;
        row_cards = λ c m. (taken.each c m).card;
        row_shops = λ c m. (taken.each c m).shop;
      }

module _ (K : ℕ) (f : Form) (s : List ℕ) (l : Layout) (is : reading_in K f s ≡ Ok l) where
  refused : {A : Type 0} (why : Refusal) → reading_in K f s ≡ Err why → A
  refused why e = not-both (reading_in K f s) l why is e

  through-claims :
      (cards card_at next shops shop_at after : ℕ) → section_at f s 0 ≡ Ok (read_section cards card_at next) →
      section_at f s next ≡ Ok (read_section shops shop_at after) → (x : Result Section Refusal) → claims_at K s after cards shops ≡ x → Accords K f s l
  through-claims cards card_at next shops shop_at after cards-are shops-are (Err why) e =
      refused why (claims-fault K f s cards card_at next cards-are shops shop_at after shops-are why e)
  through-claims cards card_at next shops shop_at after cards-are shops-are (Ok read) e =
      elim (dec_lt read.next (length s)) [
        | yes more ↦
            refused _ (trailing K f s cards card_at next cards-are shops shop_at after shops-are read.count read.start read.next e more)
        | no h ↦
            let whole : length s ≤ read.next = omega arith in
            subst (Accords K f s)
            (one-layout _ _ _
            (accepted K f s cards card_at next cards-are shops shop_at after shops-are read.count read.start read.next e whole) is)
            (accords K f s cards card_at next shops shop_at after read.count read.start read.next cards-are shops-are
            (claims-read s after read.count read.start read.next K cards shops e) whole
            (accepted K (as_stored f) s cards card_at next (section-stored s 0 cards card_at next f cards-are) shops shop_at after
            (section-stored s next shops shop_at after f shops-are) read.count read.start read.next e whole)
            (λ d.
            accepted K (for_day f d) s cards card_at next (section-day f s 0 d ∙ cards-are) shops shop_at after
            (section-day f s next d ∙ shops-are) read.count read.start read.next e whole))
      ]

  through-shops :
      (cards card_at next : ℕ) → section_at f s 0 ≡ Ok (read_section cards card_at next) → (x : Result Section Refusal) → section_at f s next ≡ x →
      Accords K f s l
  through-shops cards card_at next cards-are (Err why) e =
      refused why (shops-fault K f s cards card_at next cards-are why e)
  through-shops cards card_at next cards-are (Ok read) e =
      through-claims cards card_at next read.count read.start read.next cards-are e (claims_at K s read.next cards read.count) refl

  through-cards : (x : Result Section Refusal) → section_at f s 0 ≡ x → Accords K f s l
  through-cards (Err why) e = refused why (cards-fault K f s why e)
  through-cards (Ok read) e = through-shops read.count read.start read.next e (section_at f s read.next) refl

  pub accords-in : Accords K f s l
  accords-in = through-cards (section_at f s 0) refl

-- under the first terms
module _ (f : Form) (s : List ℕ) (l : Layout) (is : reading f s ≡ Ok l) where
  all : Accords first_terms f s l
  all = accords-in first_terms f s l is

  pub accepted-week : l.week ≡ f.week
  accepted-week = all.week

  pub accepted-day : l.day ≡ f.day
  accepted-day = all.day

  pub accepted-sections : (side : ℕ) → side < 2 → section_on f s side ≡ section_in l side
  accepted-sections = all.sections

  pub accepted-sound : Sound s l
  accepted-sound = all.sound

  pub accepted-rows : word s (l.row_at - 2) ≡ l.rows
  accepted-rows = all.rows

  pub accepted-kinds : Kinds first_terms s l
  accepted-kinds = all.kinds

  pub accepted-stored : reading (as_stored f) s ≡ Ok l
  accepted-stored = all.stored

  pub accepted-on : (d : ℕ) → reading (for_day f d) s ≡ Ok (on_day l d)
  accepted-on = all.on

  pub new-below : f.stored ≡ false → NoneAbove s l
  new-below = all.below

-- "The longest file has 10,758 bytes."
pub longest : (s : List ℕ) (l : Layout) → Sound s l → length s ≤ 10758
longest s l sound = omega (arith, sound, width-most l.week (l.cards + l.shops))
