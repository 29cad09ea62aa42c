-- Laws of a written file: it is accepted, its records read back, and it holds nothing else.
--   word_back group-back claim-back    a number or a record that stands at a place is read there
--   section-passes group-passes     a section and a group without a fault
--   written-length                     how long the file is
--   written_count written-place        the count and the records of a side stand at their places
--   written-row-count written_row      so do the count and the records of the claims
--   written-cells                      these are all: a buffer with the counts and every record starts with the file
--   written-group written-claim        the records read back
--   written-accepted written-sound     the file is accepted, with the layout for its counts, and so it is sound
--   written-bytes                      each of its cells is a byte
--   same-contents same_bytes           the same contents give the same bytes, and back
use mathlib.Core.Bool.{Bool, true, false, true≢false}
use mathlib.Core.Path.{◌≡◌, refl, sym, ap, ap₂, ◌∙◌, subst}
use mathlib.Core.Logic.{inl, inr}
use mathlib.Core.List.{List, [], ◌∷◌, ◌++◌}
use Prim.Native.Nat.{ℕ, zero, suc, ◌+◌, ◌*◌, ◌≤◌, ◌<◌}
use native.Mathlib.Decide.{dec_lt}
use native.Mathlib.Omega.{arith}
use lib.ListN.{length, get_or, take, drop, length-append, length-drop}
use Rattle.theory.specs.Bounds.{max_groups, max_rows}
use Rattle.claimfile.specs.File.{stored_week, days, columns, column_of, group_width, claim_width}
use Rattle.claimfile.specs.File.{first_terms, word, limit_at, record_at, group_at, claim_at}
use Rattle.reader.specs.Reading.{read_section, none_above, group_fault, claim_fault, Checked}
use Rattle.reader.specs.Reading.{section_by, section_at, claims_at, reading}
use Rattle.claimfile.specs.Day.{start_of, group_of, on_day, claims, claim_of}
use Rattle.claimfile.specs.Sound.{SmallerOrTop, Sound}
use Rattle.claimwriter.specs.Written.{WeekGroup, on_day_of, Contents, records_on, bytes_of, group_bytes, claim_bytes, records, section}
use Rattle.claimwriter.specs.Written.{file_bytes, layout_of, length_of, TwoSided, Ranged, Proper, SameContents}
use Rattle.claimwriter.specs.Put.{Holds, count_place, row_count_place, group_place, claim_place, Begun}
use Rattle.claimfile.specs.declared.Form.{Form}
use Rattle.reader.specs.declared.Refusal.{Refusal}
use Rattle.reader.specs.declared.Refusal.TheVariants.{GroupCount, ClaimCount}
use Rattle.claimfile.specs.declared.Layout.{Layout}
use Rattle.claimfile.specs.declared.Group.{Group}
use Rattle.claimfile.specs.declared.Claim.{Claim}
use Rattle.theory.proofs.TestLaws.{either}
use Rattle.reader.proofs.FileLaws.{above-none, group-top, group-stored, group-new}
use Rattle.reader.proofs.FileLaws.{claim-passes, records-pass, count_fits, section-fits, accepted}
use Rattle.reader.proofs.AcceptedLaws.{one-layout, accepted-sound}
use Rattle.claimwriter.proofs.PutLaws.{same-cell, holds-self, holds-take, holds-drop}
use Rattle.claimwriter.proofs.PutLaws.{holds-first, holds-second, holds-append}
use Rattle.claimwriter.proofs.PutLaws.{records-length, holds-record, holds-records, records-same, group-length, group-same}
use Rattle.claimwriter.proofs.PutLaws.{Bytes, bytes-append, bytes_word, bytes-records}
use Rattle.std.specs.Prelude.{Ok}

--------------------------------------------------------------------------------
-- Numbers and records that are read

pub word_back : (s : List ℕ) (at n : ℕ) → Holds s at (bytes_of n) → word s at ≡ n
word_back s at n h =
    omega (arith, same-cell s at (at + 0) (omega arith) ∙ h 0 (omega arith), h 1 (omega arith))

pub group-back :
    (s : List ℕ) (start g : ℕ) (group : WeekGroup) → Holds s (record_at true start g) (group_bytes group) →
    (k : ℕ) → k < days → group_at true k s start g ≡ on_day_of group k
group-back s start g group h k small =
    let at = record_at true start g in
    let parent = bytes_of group.parent in
    let limit : ℕ → List ℕ = λ k. bytes_of (group.limit k) in
    rw (
      word_back s at group.parent (holds-first s at parent (records days limit) h),
      word_back s (at + 2 + 2 * k) (group.limit k)
          (holds-record 2 limit (λ i. refl) s (at + 2) days (holds-second s at parent (records days limit) (at + 2) refl h) k small),
    )

pub claim-back :
    (s : List ℕ) (start c : ℕ) (claim : Claim) → Holds s (start + claim_width * c) (claim_bytes claim) →
    claim_at (drop start s) c ≡ claim
claim-back s start c claim h =
    let r = drop start s in
    let at = claim_width * c in
    let card = bytes_of claim.card in
    let shop = bytes_of claim.shop in
    let all = holds-drop s start at (claim_bytes claim) h in
    let both = holds-first r at (card ++ shop) (claim.kind ∷ []) all in
    rw (
      word_back r at claim.card (holds-first r at card shop both),
      word_back r (at + 2) claim.shop (holds-second r at card shop (at + 2) refl both),
      all 4 (omega arith),
    )

-- in the week layout a day has its own column
column-of : (k : ℕ) → k < days → column_of true k ≡ k
column-of k h = omega arith

--------------------------------------------------------------------------------
-- A section

section-count : (n : ℕ) (f : ℕ → List ℕ) (t : List ℕ) (at : ℕ) → Holds t at (section n f) → Holds t at (bytes_of n)
unfolding section
section-count n f t at h = holds-first t at (bytes_of n) (records n f) h

module _ (width n : ℕ) (f : ℕ → List ℕ) (each : (i : ℕ) → length (f i) ≡ width) where
  pub section-length : length (section n f) ≡ 2 + width * n
  unfolding section
  section-length = omega (arith, length-append (bytes_of n) (records n f), records-length width f each n)

  module _ (t : List ℕ) (at start : ℕ) (e : start ≡ at + 2) where
    section-record : Holds t at (section n f) → (i : ℕ) → i < n → Holds t (start + width * i) (f i)
    unfolding section
    section-record h = holds-record width f each t start n (holds-second t at (bytes_of n) (records n f) start e h)

    pub holds-section :
        Holds t at (bytes_of n) → ((i : ℕ) → i < n → Holds t (start + width * i) (f i)) → Holds t at (section n f)
    unfolding section
    holds-section count h =
        holds-append t at (bytes_of n) (records n f) start e count (holds-records width f each t start n h)

section-same :
    (m n : ℕ) (f g : ℕ → List ℕ) → m ≡ n → ((i : ℕ) → i < m → f i ≡ g i) → section m f ≡ section n g
unfolding section
section-same m n f g e h = rw (← e) (ap (λ x. bytes_of m ++ x) (records-same m f g h))

section-bytes :
    (n : ℕ) (f : ℕ → List ℕ) → n < 65536 → ((i : ℕ) → i < n → Bytes (f i)) → Bytes (section n f)
unfolding section
section-bytes n f l h = bytes-append (bytes_of n) (records n f) (bytes_word n l) (bytes-records n f h)

-- a section with a small count and records without a fault
pub section-passes :
    (s : List ℕ) (at most : ℕ) (over : Refusal) (width : ℕ) (checked : Checked) (n start next : ℕ) → at + 2 ≤ length s →
    word s at ≡ n → n ≤ most → checked ≡ Ok tt → start ≡ at + 2 → next ≡ start + width * n →
    section_by s at most over width checked ≡ Ok (read_section n start next)
section-passes s at most over width checked n start next whole count small fine e after =
    section-fits s at most over width checked (count_fits s at most over whole (omega arith))
    ∙ rw (fine, count, after, e)

-- where a new file's limits are nowhere above their parent's
pub group-passes :
    (f : Form) (s : List ℕ) (start own : ℕ) → SmallerOrTop own (word s (record_at f.week start own)) →
    (f.stored ≡ false → word s (record_at f.week start own) < own →
    none_above s (record_at f.week start own) (record_at f.week start (word s (record_at f.week start own))) (columns f.week)
    ≡ true) →
    group_fault f s start own ≡ Ok tt
group-passes f s start own parent limits =
    elim (dec_lt (word s (record_at f.week start own)) own) [
      | yes small ↦
          elim (either f.stored) [
            | inl e ↦ group-stored f s start own small e
            | inr e ↦ group-new f s start own small e (limits e small)
          ]
      | no h ↦
          elim parent [
            | inl small ↦ absurd (h small)
            | inr is ↦ group-top f s start own (omega arith) is
          ]
    ]

--------------------------------------------------------------------------------
-- The parts of the file

abbrev groups_for : Contents → ℕ → ℕ → List ℕ
groups_for d side g = group_bytes (d.group side g)

abbrev claims_for : Contents → ℕ → List ℕ
claims_for d c = claim_bytes (d.claim c)

abbrev group_section : Contents → ℕ → List ℕ
group_section d side = section (records_on d side) (groups_for d side)

abbrev claim_section : Contents → List ℕ
claim_section d = section d.rows (claims_for d)

module _ (d : Contents) where
  abbrev s : List ℕ
  s = file_bytes d

  abbrev l : Layout
  l = layout_of d

  abbrev both : List ℕ
  both = group_section d 0 ++ group_section d 1

  groups-length : (side : ℕ) → length (group_section d side) ≡ 2 + group_width true * records_on d side
  groups-length side = section-length (group_width true) (records_on d side) (groups_for d side) (λ g. group-length (d.group side g))

  cards-length : count_place l 1 ≡ 0 + length (group_section d 0)
  cards-length = omega (arith, groups-length 0)

  both-length : row_count_place l ≡ 0 + length both
  both-length =
      omega (arith, length-append (group_section d 0) (group_section d 1), groups-length 0, groups-length 1)

  pub written-length : length (file_bytes d) ≡ length_of d
  unfolding file_bytes
  written-length =
      omega (
        arith,
        length-append both (claim_section d),
        both-length,
        section-length claim_width d.rows (claims_for d) (λ c. refl),
      )

  start-behind : (side : ℕ) → start_of l side ≡ count_place l side + 2
  start-behind zero = omega arith
  start-behind (suc n) = omega arith

  rows_behind : l.row_at ≡ row_count_place l + 2
  rows_behind = omega arith

  -- the three sections stand in the file
  both-held : Holds s 0 both
  unfolding file_bytes
  both-held = holds-first s 0 both (claim_section d) (holds-self s)

  cards-held : Holds s (count_place l 0) (group_section d 0)
  cards-held = holds-first s 0 (group_section d 0) (group_section d 1) both-held

  shops-held : Holds s (count_place l 1) (group_section d 1)
  shops-held = holds-second s 0 (group_section d 0) (group_section d 1) (count_place l 1) cards-length both-held

  rows-held : Holds s (row_count_place l) (claim_section d)
  unfolding file_bytes
  rows-held = holds-second s 0 both (claim_section d) (row_count_place l) both-length (holds-self s)

  -- and a list in which they stand starts with the file
  holds-file :
      (t : List ℕ) → Holds t (count_place l 0) (group_section d 0) → Holds t (count_place l 1) (group_section d 1) →
      Holds t (row_count_place l) (claim_section d) → Holds t 0 s
  unfolding file_bytes
  holds-file t cards shops rows =
      holds-append t 0 both (claim_section d) (row_count_place l) both-length
      (holds-append t 0 (group_section d 0) (group_section d 1) (count_place l 1) cards-length cards shops) rows

  pub written_count : (side : ℕ) → Holds (file_bytes d) (count_place (layout_of d) side) (bytes_of (records_on d side))
  written_count zero = section-count d.cards (groups_for d 0) s 0 cards-held
  written_count (suc n) = section-count d.shops (groups_for d 1) s (count_place l 1) shops-held

  pub written-row-count : Holds (file_bytes d) (row_count_place (layout_of d)) (bytes_of d.rows)
  written-row-count = section-count d.rows (claims_for d) s (row_count_place l) rows-held

  pub written-place :
      TwoSided d → (side g : ℕ) → g < records_on d side →
      Holds (file_bytes d) (group_place (layout_of d) side g) (group_bytes (d.group side g))
  written-place sides zero =
      section-record (group_width true) d.cards (groups_for d 0) (λ g. group-length (d.group 0 g)) s 0 2 (start-behind 0) cards-held
  written-place sides (suc n) = λ g h.
      subst (λ x. Holds s (group_place l 1 g) (group_bytes x)) (sym (sides n g))
      (section-record (group_width true) d.shops (groups_for d 1) (λ g. group-length (d.group 1 g)) s (count_place l 1) (start_of l 1)
      (start-behind 1) shops-held g h)

  pub written_row :
      (c : ℕ) → c < d.rows → Holds (file_bytes d) (claim_place (layout_of d) c) (claim_bytes (d.claim c))
  written_row =
      section-record claim_width d.rows (claims_for d) (λ c. refl) s (row_count_place l) l.row_at rows_behind rows-held

  pub written-cells :
      {G : ℕ → ℕ → Type 0} {C : ℕ → Type 0} {old t : List ℕ} → Begun d G C old t → length_of d ≤ length old →
      ((side g : ℕ) → side ≤ 1 → g < records_on d side → G side g) → ((c : ℕ) → c < d.rows → C c) →
      take (length_of d) t ≡ file_bytes d
  written-cells {t = t} b room all-groups all-claims =
      holds-take t s (length_of d) (sym written-length) (omega (arith, b.long))
      (holds-file t (groups 0 (omega arith)) (groups 1 (omega arith)) rows)
    where
      groups : (side : ℕ) → side ≤ 1 → Holds t (count_place l side) (group_section d side)
      groups side m =
          holds-section (group_width true) (records_on d side) (groups_for d side) (λ g. group-length (d.group side g)) t
          (count_place l side) (start_of l side) (start-behind side) (b.counts side) (λ g h. b.groups side g h (all-groups side g m h))

      rows : Holds t (row_count_place l) (claim_section d)
      rows =
          holds-section claim_width d.rows (claims_for d) (λ c. refl) t (row_count_place l) l.row_at rows_behind
          b.row_count (λ c h. b.claims c h (all-claims c h))

  written-record :
      TwoSided d → (side g : ℕ) → g < records_on d side → (k : ℕ) → k < days →
      group_at true k s (start_of l side) g ≡ on_day_of (d.group side g) k
  written-record sides side g h = group-back s (start_of l side) g (d.group side g) (written-place sides side g h)

  pub written-group :
      TwoSided d → (k side g : ℕ) → k < days → g < records_on d side →
      group_of (file_bytes d) (on_day (layout_of d) k) side g ≡ on_day_of (d.group side g) k
  written-group sides k zero g m h = ap (λ x. group_at true x s 2 g) (column-of k m) ∙ written-record sides 0 g h k m
  written-group sides k (suc n) g m h =
      ap (λ x. group_at true x s (start_of l 1) g) (column-of k m) ∙ written-record sides (suc n) g h k m

  pub written-claim : (c : ℕ) → c < d.rows → claim_of (file_bytes d) (layout_of d) c ≡ d.claim c
  written-claim c h = claim-back s l.row_at c (d.claim c) (written_row c h)

  --------------------------------------------------------------------------------
  -- Contents within range

  module _ (ranged : Ranged d) where
    most : (side : ℕ) → records_on d side ≤ max_groups
    most zero = ranged.cards_most
    most (suc n) = ranged.shops_most

    within : (side : ℕ) → start_of l side + group_width true * records_on d side ≤ length s
    within zero = omega (arith, written-length)
    within (suc n) = omega (arith, written-length)

    -- the record of a group, read back
    back : (side g : ℕ) → g < records_on d side → (k : ℕ) → k < days → group_at true k s (start_of l side) g ≡ on_day_of (d.group side g) k
    back = written-record ranged.sides

    parent-back : (side g : ℕ) → g < records_on d side → word s (record_at true (start_of l side) g) ≡ (d.group side g).parent
    parent-back side g h = ap (λ (x : Group). x.parent) (back side g h 0 (omega arith))

    limit-back :
        (side g : ℕ) → g < records_on d side → (k : ℕ) → k < days →
        limit_at s (record_at true (start_of l side) g) k ≡ (d.group side g).limit k
    limit-back side g h k m = ap (λ (x : Group). x.limit) (back side g h k m)

    -- it has no fault: a stored file's limits are not judged, and those of proper contents are nowhere above their parent's
    module _ (stored : Bool) (day : ℕ) (judged : stored ≡ false → Proper d) where
      abbrev f : Form
      f = record { week = true; stored = stored; day = day }

      group-fits : (side g : ℕ) → g < records_on d side → group_fault f s (start_of l side) g ≡ Ok tt
      group-fits side g h =
          group-passes f s (start_of l side) g (subst (SmallerOrTop g) (sym up) (ranged.parents side g h))
          (λ new small.
          above-none s _ _ days
          (λ k m.
          omega (
            arith,
            (judged new).below k side g m h (omega (arith, up)),
            limit-back side g h k m,
            limit-back side (word s (record_at true (start_of l side) g)) (omega arith) k m,
            ap (λ i. (d.group side i).limit k) up,
          )))
        where
          up : word s (record_at true (start_of l side) g) ≡ (d.group side g).parent
          up = parent-back side g h

      groups-read :
          (side next : ℕ) → next ≡ start_of l side + group_width true * records_on d side →
          section_at f s (count_place l side) ≡ Ok (read_section (records_on d side) (start_of l side) next)
      unfolding section_at
      groups-read side next after =
          let count = word_back s (count_place l side) (records_on d side) (written_count side) in
          section-passes s (count_place l side) max_groups GroupCount (group_width true) _ (records_on d side) (start_of l side) next
          (omega (arith, within side, start-behind side)) count (most side)
          (rw (← start-behind side, count)
          (records-pass (length s) (start_of l side) (group_width true) (group_fault f s (start_of l side)) (records_on d side)
          (λ g h. omega (arith, within side)) (group-fits side) (records_on d side) 0 (omega arith)))
          (start-behind side) after

    rows-read : claims_at first_terms s (row_count_place l) d.cards d.shops ≡ Ok (read_section d.rows l.row_at (length_of d))
    unfolding claims_at
    rows-read =
        let count = word_back s (row_count_place l) d.rows written-row-count in
        section-passes s (row_count_place l) max_rows ClaimCount claim_width _ d.rows l.row_at (length_of d)
        (omega (arith, written-length)) count ranged.rows_most
        (rw (← rows_behind, count)
        (records-pass (length (claims s l)) 0 claim_width (λ c. claim_fault first_terms (claim_of s l c) d.cards d.shops) d.rows
        (λ c h. omega (arith, written-length, length-drop l.row_at s))
        (λ c h.
        ap (λ (x : Claim). claim_fault first_terms x d.cards d.shops) (written-claim c h)
        ∙ claim-passes first_terms (d.claim c) d.cards d.shops (ranged.claim_cards c h) (ranged.claim_shops c h)
        (omega (arith, ranged.claim_kinds c h)))
        d.rows 0 (omega arith)))
        rows_behind (omega arith)

    -- as a stored file, or as a new one where the contents are proper
    pub written-accepted :
        (stored : Bool) (day : ℕ) → (stored ≡ false → Proper d) →
        reading (record { week = true; stored = stored; day = day }) (file_bytes d) ≡ Ok (on_day (layout_of d) day)
    written-accepted stored day judged =
        accepted first_terms (record { week = true; stored = stored; day = day }) s d.cards 2 (count_place l 1)
        (groups-read stored day judged 0 (count_place l 1) (omega arith)) d.shops (start_of l 1) (row_count_place l)
        (groups-read stored day judged 1 (row_count_place l) (omega arith)) d.rows l.row_at (length_of d) rows-read
        (omega (arith, written-length))

    pub written-sound : (day : ℕ) → Sound (file_bytes d) (on_day (layout_of d) day)
    written-sound day =
        accepted-sound (stored_week day) s (on_day l day) (written-accepted true day (λ e. absurd (true≢false e)))

    parent-below : (side g : ℕ) → g < records_on d side → (d.group side g).parent < 65536
    parent-below side g h =
        elim (ranged.parents side g h) [
          | inl small ↦ omega (arith, most side)
          | inr is ↦ omega arith
        ]

    groups-bytes : (side : ℕ) → Bytes (group_section d side)
    groups-bytes side =
        section-bytes (records_on d side) (groups_for d side) (omega (arith, most side))
        (λ g h.
        bytes-append (bytes_of (d.group side g).parent) (records days (λ k. bytes_of ((d.group side g).limit k)))
        (bytes_word (d.group side g).parent (parent-below side g h))
        (bytes-records days (λ k. bytes_of ((d.group side g).limit k))
        (λ k m. bytes_word ((d.group side g).limit k) (omega (arith, ranged.limits k side g m h)))))

    claim-bytes : (c : ℕ) → c < d.rows → Bytes (claims_for d c)
    claim-bytes c h =
        bytes-append (bytes_of (d.claim c).card ++ bytes_of (d.claim c).shop) ((d.claim c).kind ∷ [])
        (bytes-append (bytes_of (d.claim c).card) (bytes_of (d.claim c).shop)
        (bytes_word (d.claim c).card (omega (arith, ranged.claim_cards c h, ranged.cards_most)))
        (bytes_word (d.claim c).shop (omega (arith, ranged.claim_shops c h, ranged.shops_most))))
        kind
      where
        kind : Bytes ((d.claim c).kind ∷ [])
        kind zero = omega (arith, ranged.claim_kinds c h)
        kind (suc i) = omega arith

    pub written-bytes : (i : ℕ) → get_or (file_bytes d) i 0 < 256
    unfolding file_bytes
    written-bytes =
        bytes-append both (claim_section d)
        (bytes-append (group_section d 0) (group_section d 1) (groups-bytes 0) (groups-bytes 1))
        (section-bytes d.rows (claims_for d) (omega (arith, ranged.rows_most)) claim-bytes)

--------------------------------------------------------------------------------
-- The same contents, and the same bytes

module _ (d e : Contents) where
  pub same-contents : SameContents d e → file_bytes d ≡ file_bytes e
  unfolding file_bytes
  same-contents same =
      ap₂ ◌++◌
      (ap₂ ◌++◌ (section-same d.cards e.cards (groups_for d 0) (groups_for e 0) same.cards (groups 0))
      (section-same d.shops e.shops (groups_for d 1) (groups_for e 1) same.shops (groups 1)))
      (section-same d.rows e.rows (claims_for d) (claims_for e) same.rows (λ c h. ap claim_bytes (same.claims c h)))
    where
      groups : (side g : ℕ) → g < records_on d side → groups_for d side g ≡ groups_for e side g
      groups side g h = group-same (d.group side g) (e.group side g) (same.groups side g h)

  module _ (of-d : Ranged d) (of-e : Ranged e) (same : file_bytes d ≡ file_bytes e) where
    layout-same : layout_of d ≡ layout_of e
    layout-same =
        one-layout (reading (stored_week 0) (file_bytes d)) (layout_of d) (layout_of e) (written-accepted d of-d true 0 never)
        (ap (reading (stored_week 0)) same ∙ written-accepted e of-e true 0 never)
      where
        never : {A : Type 0} → true ≡ false → A
        never e = absurd (true≢false e)

    count_same : (side : ℕ) → records_on d side ≡ records_on e side
    count_same zero = ap (λ (x : Layout). x.cards) layout-same
    count_same (suc n) = ap (λ (x : Layout). x.shops) layout-same

    row-count-same : d.rows ≡ e.rows
    row-count-same = ap (λ (x : Layout). x.rows) layout-same

    group-read :
        (k side g : ℕ) → k < days → g < records_on d side → on_day_of (d.group side g) k ≡ on_day_of (e.group side g) k
    group-read k side g m h =
        sym (written-group d of-d.sides k side g m h)
        ∙ ap₂ (λ x y. group_of x (on_day y k) side g) same layout-same
        ∙ written-group e of-e.sides k side g m (omega (arith, count_same side))

    pub same_bytes : SameContents d e
    same_bytes =
        record {
          cards = count_same 0;
          shops = count_same 1;
          rows = row-count-same;
          groups = λ side g h.
              record {
                parent = ap (λ (x : Group). x.parent) (group-read 0 side g (omega arith) h);
                limits = λ k m. ap (λ (x : Group). x.limit) (group-read k side g m h);
              };
          claims = λ c h.
              sym (written-claim d c h)
              ∙ ap₂ (λ x y. claim_of x y c) same layout-same
              ∙ written-claim e c (omega (arith, row-count-same));
        }
