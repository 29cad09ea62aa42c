-- A group section is read from its own bytes. In which file they stand, at which place, and so on which side, does not matter
-- (document 02, E6): the judgement of a record looks at that record and at its parent's, and both move with the section.
--   records-same               records of which the same are whole, with the same faults one by one, have the same first fault
--   SameRecord                 the same group record at two places
--   in_layout w f               the form f in another layout
--   fault-alike                records with the same parent, one in each layout, have the same fault where the same is said of
--                              their limits
--   every-same none-same fault-same    the same records have the same faults
--   word-part cut-part         a number and the end of a list, in the part of it that starts at a place
--   section-same groups-same   the same bytes from the count on give the same groups and end, or the same number
--   group-own section-own      of a section that was read its own bytes are enough, whatever follows them
--   sides-same sides-own       the same of the sections of two sides of two files, or of one
--   fault-there                a section whose fault is known by its own places
--   sides-number               "or the same number": what the calls are told of a faulty section, as the card section or as the shop section
use mathlib.Core.Path.{◌≡◌, refl, sym, ap, ap₂, ◌∙◌}
use mathlib.Core.Bool.{Bool, ◌&&◌}
use mathlib.Core.List.{List}
use Prim.Native.Nat.{ℕ, zero, suc, ◌+◌, ◌*◌, ◌-◌, ◌<◌, ◌≤◌, zero-le}
use native.Mathlib.Decide.{dec_lt}
use native.Mathlib.Omega.{arith}
use lib.ListN.{length, get_or, drop, length-drop}
use lib.Seq.{get_or-drop}
use lib.Dec.{ltb, leb}
use borrow.Author.Tests.{lt-ltb, le-ltb}
use Rattle.theory.specs.Bounds.{max_groups}
use Rattle.theory.specs.Sum.{pick, every}
use Rattle.claimfile.specs.File.{first_terms, columns, column_of, group_width, word, limit_at, record_at, group_at}
use Rattle.reader.specs.Reading.{read_section, or_else, parent_fault, none_above, group_fault, records_from, Checked}
use Rattle.reader.specs.Reading.{groups_from, count_fault, section_of, section_at, reading}
use Rattle.reader.specs.Sections.{behind, place_on, section_on, from_count, OwnBytes}
use Rattle.claimfile.specs.Day.{start_of, count_of, group_of}
use Rattle.claimfile.specs.declared.Form.{Form}
use Rattle.reader.specs.declared.Refusal.TheVariants.{CutOff, GroupCount, LimitAbove}
use Rattle.reader.specs.declared.Refusal.{Refusal}
use Rattle.reader.specs.declared.Section.{Section}
use Rattle.claimfile.specs.declared.Layout.{Layout}
use Rattle.reader.proofs.FileLaws.{records-pass, count_fits, section-fits, cards-fault, shops-fault}
use Rattle.claimfile.proofs.WidthLaws.{width-least, width-inside, column-within, column-small}
use Rattle.reader.proofs.AcceptedLaws.{never-read, Taken, GroupFits, section-read, section-fine}
use Rattle.reader.proofs.AcceptedLaws.{accepted-week, accepted-day, accepted-sections}
use Rattle.std.specs.Prelude.{Ok, Err, Result}

--------------------------------------------------------------------------------
-- Records, one by one

-- of the first n records the same are whole, and each of those has the same fault
module _
    (size start width size' start' width' : ℕ) (fault fault' : ℕ → Checked) (n : ℕ)
    (cut : (k : ℕ) → k < n → ltb size (start + width * k + width) ≡ ltb size' (start' + width' * k + width'))
    (judged : (k : ℕ) → k < n → start + width * k + width ≤ size → fault k ≡ fault' k)
  where
    pub records-same :
        (k left : ℕ) → k + left ≤ n → records_from size start width fault k left ≡ records_from size' start' width' fault' k left
    unfolding records_from
    records-same k zero h = refl
    records-same k (suc left) h =
        let same = cut k (omega arith) in
        elim (dec_lt size (start + width * k + width)) [
          | yes short ↦
              let here = lt-ltb _ _ short in
              rw (here, sym same ∙ here)
          | no long ↦
              let whole : start + width * k + width ≤ size = omega arith in
              let here = le-ltb _ _ whole in
              rw (here, sym same ∙ here) (ap₂ or_else (judged k (omega arith) whole) (records-same (suc k) left (omega arith)))
        ]

-- the same record at two places: the same parent, and the same limits
record SameRecord (w : Bool) (s : List ℕ) (a : ℕ) (t : List ℕ) (b : ℕ) : Type 0 where
  parent : word s a ≡ word t b
  limits : (k : ℕ) → k < columns w → limit_at s a k ≡ limit_at t b k

every-same : (n : ℕ) (t u : ℕ → Bool) → ((k : ℕ) → k < n → t k ≡ u k) → every n t ≡ every n u
unfolding every
every-same zero t u same = refl
every-same (suc n) t u same = ap₂ ◌&&◌ (every-same n t u (λ k h. same k (omega arith))) (same n (omega arith))

none-same :
    (w : Bool) (s t : List ℕ) (own parent own' parent' : ℕ) → SameRecord w s own t own' → SameRecord w s parent t parent' →
    none_above s own parent (columns w) ≡ none_above t own' parent' (columns w)
unfolding none_above
none-same w s t own parent own' parent' here up =
    every-same (columns w) (λ k. leb (limit_at s own k) (limit_at s parent k)) (λ k. leb (limit_at t own' k) (limit_at t parent' k))
    (λ k h. ap₂ leb (here.limits k h) (up.limits k h))

-- the same form, in another layout
abbrev pub in_layout : Bool → Form → Form
in_layout w f = record { week = w; stored = f.stored; day = f.day }

module _ (f : Form) (w : Bool) (s t : List ℕ) (start start' own : ℕ) where
  abbrev in-s : ℕ → ℕ
  in-s = record_at f.week start

  abbrev in-t : ℕ → ℕ
  in-t = record_at w start'

  -- the parent's record is looked at where the parent is a smaller group
  pub fault-alike :
      word s (record_at f.week start own) ≡ word t (record_at w start' own) →
      (word s (record_at f.week start own) < own →
      none_above s (record_at f.week start own) (record_at f.week start (word s (record_at f.week start own)))
      (columns f.week)
      ≡ none_above t (record_at w start' own) (record_at w start' (word s (record_at f.week start own))) (columns w)) →
      group_fault f s start own ≡ group_fault (in_layout w f) t start' own
  unfolding group_fault
  fault-alike same none = parents ∙ ap (λ p. fault_by p (none_above t (in-t own) (in-t p) (columns w))) same
    where
      -- the fault of a record by its parent and by whether none of its limits is above that one's
      fault_by : ℕ → Bool → Checked
      fault_by p none =
          or_else (parent_fault own p)
          (pick (ltb p own) (pick f.stored (Ok tt) (pick none (Ok tt) (Err LimitAbove))) (Ok tt))

      parents :
          fault_by (word s (in-s own)) (none_above s (in-s own) (in-s (word s (in-s own))) (columns f.week))
          ≡ fault_by (word s (in-s own)) (none_above t (in-t own) (in-t (word s (in-s own))) (columns w))
      parents =
          elim (dec_lt (word s (in-s own)) own) [
            | yes small ↦ ap (fault_by (word s (in-s own))) (none small)
            | no h ↦
                let large : own ≤ word s (in-s own) = omega arith in
                rw (le-ltb _ _ large)
          ]

fault-same :
    (f : Form) (s t : List ℕ) (start start' own : ℕ) →
    SameRecord f.week s (record_at f.week start own) t (record_at f.week start' own) →
    (word s (record_at f.week start own) < own →
    SameRecord f.week s (record_at f.week start (word s (record_at f.week start own))) t
    (record_at f.week start' (word s (record_at f.week start own)))) →
    group_fault f s start own ≡ group_fault f t start' own
fault-same f s t start start' own here up =
    fault-alike f f.week s t start start' own here.parent (λ small. none-same f.week s t _ _ _ _ here (up small))

--------------------------------------------------------------------------------
-- A section and the part of the file that starts at its count

module _ (s : List ℕ) (a : ℕ) where
  abbrev part : List ℕ
  part = drop a s

  pub word-part : (i j : ℕ) → j ≡ a + i → word s j ≡ word (drop a s) i
  word-part i j e =
      ap (word s) e
      ∙ ap₂ (λ x y. x + 256 * y) (sym (get_or-drop a s i 0)) (ap (λ k. get_or s k 0) (omega arith) ∙ sym (get_or-drop a s (i + 1) 0))

  record_part : (w : Bool) (start g : ℕ) → SameRecord w s (record_at w (a + start) g) part (record_at w start g)
  record_part w start g =
      record {
        parent = word-part (record_at w start g) (record_at w (a + start) g) (omega arith);
        limits = λ k h. word-part (record_at w start g + 2 + 2 * k) (record_at w (a + start) g + 2 + 2 * k) (omega arith);
      }

  module _ (inside : a ≤ length s) where
    pub cut-part : (i j : ℕ) → j ≡ a + i → ltb (length s) j ≡ ltb (length (drop a s)) i
    cut-part i j e =
        elim (dec_lt (length part) i) [
          | yes h ↦
              let short : length s < j = omega (arith, length-drop a s) in
              lt-ltb _ _ short ∙ sym (lt-ltb _ _ h)
          | no h ↦
              let whole : j ≤ length s = omega (arith, length-drop a s) in
              let rest : i ≤ length part = omega arith in
              le-ltb _ _ whole ∙ sym (le-ltb _ _ rest)
        ]

    groups-part : (f : Form) (left : ℕ) → groups_from f s (a + 2) 0 left ≡ groups_from f part 2 0 left
    groups-part f left =
        let w = f.week in
        records-same (length s) (a + 2) (group_width w) (length part) 2 (group_width w) (group_fault f s (a + 2))
        (group_fault f part 2) left
        (λ k h. cut-part (record_at w 2 k + group_width w) (record_at w (a + 2) k + group_width w) (omega arith))
        (λ own h whole.
        fault-same f s part (a + 2) 2 own (record_part w 2 own) (λ small. record_part w 2 (word s (record_at w (a + 2) own))))
        0 left (omega arith)

    count-part : count_fault s a max_groups GroupCount ≡ count_fault part 0 max_groups GroupCount
    unfolding count_fault
    count-part =
        ap₂ (λ x n. pick x (Err CutOff) (pick (ltb max_groups n) (Err GroupCount) (Ok tt)))
        (cut-part (0 + 2) (a + 2) (omega arith)) (word-part 0 a (omega arith))

    -- its places move with it
    placed-part :
        (x : Checked) (n width : ℕ) → from_count a (section_of x n (a + 2) width) ≡ from_count 0 (section_of x n (0 + 2) width)
    placed-part (Ok _) n width = ap₂ (λ p q. Ok (read_section n p q)) (omega arith) (omega arith)
    placed-part (Err why) n width = refl

    section-part : (f : Form) → from_count a (section_at f s a) ≡ from_count 0 (section_at f part 0)
    unfolding section_at
    section-part f =
        let width = group_width f.week in
        ap₂ (λ x n. from_count a (section_of (or_else x (groups_from f s (a + 2) 0 n)) n (a + 2) width)) count-part
        (word-part 0 a (omega arith))
        ∙ ap
        (λ x. from_count a (section_of (or_else (count_fault part 0 max_groups GroupCount) x) (word part 0) (a + 2) width))
        (groups-part f (word part 0))
        ∙ placed-part (or_else (count_fault part 0 max_groups GroupCount) (groups_from f part 2 0 (word part 0))) (word part 0) width

--------------------------------------------------------------------------------
-- The same bytes from the count on

module _ (s t : List ℕ) (a b : ℕ) (same : drop a s ≡ drop b t) where
  pub section-same :
      (f : Form) → a ≤ length s → b ≤ length t → from_count a (section_at f s a) ≡ from_count b (section_at f t b)
  section-same f h k =
      section-part s a h f ∙ ap (λ (r : List ℕ). from_count 0 (section_at f r 0)) same ∙ sym (section-part t b k f)

  pub groups-same :
      (w : Bool) (k g : ℕ) → k < columns w → group_at w k s (a + 2) g ≡ group_at w k t (b + 2) g
  groups-same w k g h =
      let here = record_part s a w 2 g in
      let there = record_part t b w 2 g in
      ap₂ (λ (x y : ℕ). record { parent = x; limit = y })
      (here.parent ∙ ap (λ (r : List ℕ). word r (record_at w 2 g)) same ∙ sym there.parent)
      (here.limits k h ∙ ap (λ (r : List ℕ). limit_at r (record_at w 2 g) k) same ∙ sym (there.limits k h))

--------------------------------------------------------------------------------
-- A section that was read, by its own bytes

module _ (s t : List ℕ) (a b n : ℕ) (own : OwnBytes s a t b n) where
  word-own : (i p q : ℕ) → i + 1 < n → p ≡ a + i → q ≡ b + i → word s p ≡ word t q
  word-own i p q h e d =
      ap₂ (λ x y. x + 256 * y)
      (ap (λ k. get_or s k 0) e ∙ own i (omega arith) ∙ ap (λ k. get_or t k 0) (sym d))
      (ap (λ k. get_or s k 0) (omega arith) ∙ own (i + 1) h ∙ ap (λ k. get_or t k 0) (omega arith))

  record_own :
      (w : Bool) (p q g : ℕ) → p ≡ a + 2 → q ≡ b + 2 → record_at w 2 g + group_width w ≤ n →
      SameRecord w s (record_at w p g) t (record_at w q g)
  record_own w p q g e d h =
      record {
        parent = word-own (record_at w 2 g) (record_at w p g) (record_at w q g) (omega (arith, width-least w)) (omega arith) (omega arith);
        limits = λ k m.
            word-own (record_at w 2 g + 2 + 2 * k) (record_at w p g + 2 + 2 * k) (record_at w q g + 2 + 2 * k)
            (omega (arith, column-within w k m)) (omega arith) (omega arith);
      }

  pub group-own :
      (w : Bool) (k p q g : ℕ) → k < columns w → p ≡ a + 2 → q ≡ b + 2 → record_at w 2 g + group_width w ≤ n →
      group_at w k s p g ≡ group_at w k t q g
  group-own w k p q g m e d h =
      let same = record_own w p q g e d h in
      ap₂ (λ (x y : ℕ). record { parent = x; limit = y }) same.parent (same.limits k m)

-- whatever stands behind it
module _ (f : Form) (s t : List ℕ) (a b count start next : ℕ) where
  abbrev w : Bool
  w = f.week

  abbrev size : ℕ
  size = 2 + group_width w * count

  pub section-own :
      section_at f s a ≡ Ok (read_section count start next) → OwnBytes s a t b (2 + group_width f.week * count) →
      b + 2 + group_width f.week * count ≤ length t →
      section_at f t b ≡ Ok (read_section count (b + 2) (b + 2 + group_width f.week * count))
  unfolding section_at
  section-own e own room =
      section-fits t b max_groups GroupCount (group_width w) (groups_from f t (b + 2) 0 (word t b))
      (count_fits t b max_groups GroupCount whole few)
      ∙ ap (λ n. section_of (groups_from f t (b + 2) 0 n) n (b + 2) (group_width w)) counted
      ∙ ap (λ x. section_of x count (b + 2) (group_width w)) fine
    where
      read : Taken s a max_groups (group_width w) (GroupFits f s) count start next
      read = section-read s a count start next f e

      counted : word t b ≡ count
      counted = sym (word-own s t a b size own 0 a b (omega arith) (omega arith) (omega arith)) ∙ sym read.counted

      whole : b + 2 ≤ length t
      whole = omega arith

      few : word t b ≤ max_groups
      few = omega (arith, counted, read.small)

      same : (g : ℕ) → g < count → SameRecord w s (record_at w (a + 2) g) t (record_at w (b + 2) g)
      same g h = record_own s t a b size own w (a + 2) (b + 2) g refl refl (omega (arith, width-inside w g count h))

      -- a smaller parent is one of the records too
      judged : (g : ℕ) → g < count → group_fault f t (b + 2) g ≡ Ok tt
      judged g h =
          sym (fault-same f s t (a + 2) (b + 2) g (same g h) (λ small. same (word s (record_at w (a + 2) g)) (omega arith)))
          ∙ (section-fine s a count start next f e g (omega (arith, read.counted))).fine

      fine : groups_from f t (b + 2) 0 count ≡ Ok tt
      fine =
          records-pass (length t) (b + 2) (group_width w) (group_fault f t (b + 2)) count
          (λ k h. omega (arith, width-inside w k count h)) judged count 0 (omega arith)

--------------------------------------------------------------------------------
-- The sides of two files, or of one

place-within : (f : Form) (s : List ℕ) (side : ℕ) → place_on f s side ≤ length s
place-within f s zero = zero-le
place-within f s (suc side) = within (section_on f s side) refl
  where
    within : (x : Result Section Refusal) → section_on f s side ≡ x → behind x ≤ length s
    within (Ok read) e = (section-read s (place_on f s side) read.count read.start read.next f e).within
    within (Err why) e = zero-le

-- "the same bytes, read as a card section or as a shop section by calls of one sort, give the same groups and end, or the same number":
-- the same count and end, or the same number
pub sides-same :
    (f : Form) (s t : List ℕ) (i j : ℕ) → drop (place_on f s i) s ≡ drop (place_on f t j) t →
    from_count (place_on f s i) (section_on f s i) ≡ from_count (place_on f t j) (section_on f t j)
sides-same f s t i j same = section-same s t (place_on f s i) (place_on f t j) same f (place-within f s i) (place-within f t j)

-- and the same groups: of two accepted files with the same section on a side of each, whatever the rest of them is
module _ (f : Form) (s : List ℕ) (l : Layout) (is : reading f s ≡ Ok l) (side : ℕ) (few : side < 2) where
  abbrev end : ℕ
  end = start_of l side + group_width l.week * count_of l side

  taken-on :
      Taken s (place_on f s side) max_groups (group_width f.week) (GroupFits f s) (count_of l side) (start_of l side)
      (start_of l side + group_width l.week * count_of l side)
  taken-on = section-read s (place_on f s side) (count_of l side) (start_of l side) end f (accepted-sections f s l is side few)

pub sides-own :
    (f : Form) (s t : List ℕ) (k l : Layout) → reading f s ≡ Ok k → reading f t ≡ Ok l → (i j : ℕ) → i < 2 → j < 2 →
    OwnBytes s (place_on f s i) t (place_on f t j) (2 + group_width f.week * count_of k i) →
    (count_of k i ≡ count_of l j) × ((g : ℕ) → g < count_of k i → group_of s k i g ≡ group_of t l j g)
sides-own f s t k l sk tl i j hi hj own =
    let w = f.week in
    let column = column_of w f.day in
    let here = taken-on f s k sk i hi in
    let there = taken-on f t l tl j hj in
    let a = place_on f s i in
    let b = place_on f t j in
    let n = 2 + group_width w * count_of k i in (
      here.counted ∙ word-own s t a b n own 0 a b (omega arith) (omega arith) (omega arith) ∙ sym there.counted,
      λ g h.
          ap₂ (λ x y. group_at x (column_of x y) s (start_of k i) g) (accepted-week f s k sk) (accepted-day f s k sk)
          ∙ group-own s t a b n own w column (start_of k i) (start_of l j) g (column-small w f.day) here.place there.place
          (omega (arith, width-inside w g (count_of k i) h))
          ∙ ap₂ (λ x y. group_at x (column_of x y) t (start_of l j) g) (sym (accepted-week f t l tl)) (sym (accepted-day f t l tl)),
    )

--------------------------------------------------------------------------------
-- A faulty section

fault-there : (at : ℕ) (x : Result Section Refusal) (why : Refusal) → from_count at x ≡ Err why → x ≡ Err why
fault-there at (Err w) why e = e
fault-there at (Ok read) why e =
    never-read (from_count at (Ok read)) why read.count (read.start - at) (read.next - at) refl e

-- The file t has a card section and then the bytes of the file s, whose card section is faulty: both are refused with the same number.
pub sides-number :
    (f : Form) (s t : List ℕ) (cards card_at next : ℕ) (why : Refusal) → section_at f t 0 ≡ Ok (read_section cards card_at next) →
    s ≡ drop next t → section_at f s 0 ≡ Err why → (reading f s ≡ Err why) × (reading f t ≡ Err why)
sides-number f s t cards card_at next why read same e =
    let within : next ≤ length t = (section-read t 0 cards card_at next f read).within in
    let moved = section-same s t 0 next same f zero-le within in (
      cards-fault first_terms f s why e,
      shops-fault first_terms f t cards card_at next read why (fault-there next (section_at f t next) why (sym moved ∙ ap (from_count 0) e)),
    )
