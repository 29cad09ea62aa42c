-- A group section in the old layout and its widening (specs/Widened.antt) are judged alike: the same records are whole, and those
-- have the same parents and on every day the same limits, so the first fault is the same. A record has 4 bytes in the old layout
-- and 16 in the week layout.
--   record_widened record_copied   the next record, whole or not
--   records-widened            the first of many records
--   section-widened section-whole section-copied   a section by its first records, one that is whole, and a count that is not
--   every_one none_alike       a limit is above its parent's where it is on each of seven days
--   section-alike              two sections with the same count and the same fault
--   Follows next s a t b       what is left of t from b on is `next` of what is left of s from a on
--   groups-alike               the group sections there have the same count and the same fault
--   follows-groups             and so it is behind them
use mathlib.Core.Path.{◌≡◌, refl, sym, ap, ap₂, ◌∙◌}
use mathlib.Core.Bool.{Bool, true, false, ◌&&◌}
use mathlib.Core.List.{List, ◌++◌, append_assoc}
use Prim.Native.Nat.{ℕ, zero, suc, ◌+◌, ◌*◌, ◌-◌, ◌/◌, ◌≤◌, ◌<◌}
use native.Mathlib.Decide.{dec_lt}
use native.Mathlib.Nat.{sub-zero}
use native.Mathlib.Omega.{arith}
use lib.ListN.{length, get_or, drop, length-drop, length-append}
use lib.Seq.{get_or-drop, drop-drop, drop_at}
use lib.Dec.{ltb, leb}
use borrow.Author.Tests.{lt-ltb, le-ltb}
use Rattle.theory.specs.Bounds.{max_groups}
use Rattle.theory.specs.Sum.{every}
use Rattle.claimfile.specs.File.{days, columns, word, limit_at, group_at}
use Rattle.reader.specs.Reading.{or_else, none_above, group_fault, groups_from, Checked}
use Rattle.reader.specs.Reading.{count_fault, section_of, section_by, section_at}
use Rattle.claimwriter.specs.Written.{on_day_of, bytes_of, group_bytes, records, section}
use Rattle.claimwriter.specs.Widened.{seven_days, widen_record, widen_records, widen_section}
use Rattle.claimwriter.specs.Put.{Holds}
use Rattle.claimfile.specs.declared.Form.{Form}
use Rattle.reader.specs.declared.Refusal.{Refusal}
use Rattle.reader.specs.declared.Refusal.TheVariants.{GroupCount}
use Rattle.claimfile.specs.declared.Group.{Group}
use Rattle.reader.proofs.AcceptedLaws.{section-read}
use Rattle.reader.proofs.SectionLaws.{records-same, fault-alike, word-part}
use Rattle.claimwriter.proofs.PutLaws.{holds-first, holds-second, holds-record, records-length, group-length}
use Rattle.claimwriter.proofs.WrittenLaws.{word_back, group-back, section-length}
use Rattle.std.specs.Prelude.{Ok}

--------------------------------------------------------------------------------
-- The bytes of a widened section, of the part of s that starts at a place

module _ (next : List ℕ → List ℕ) (s : List ℕ) where
  record_widened :
      (n at : ℕ) → at + 4 ≤ length s →
      widen_records (suc n) next (drop at s) ≡ group_bytes (widen_record s at) ++ widen_records n next (drop (at + 4) s)
  unfolding widen_records
  record_widened n at whole =
      let long : 4 ≤ length (drop at s) = omega (arith, length-drop at s) in
      rw (le-ltb _ _ long)
      (ap₂ ◌++◌
      (ap₂ (λ parent limit. group_bytes (seven_days parent limit)) (sym (word-part s at 0 at (omega arith)))
      (sym (word-part s at 2 (at + 2 + 0) (omega arith))))
      (ap (widen_records n next) (drop-drop 4 at s)))

  record_copied : (n at : ℕ) → at ≤ length s → length s < at + 4 → widen_records (suc n) next (drop at s) ≡ drop at s
  unfolding widen_records
  record_copied n at inside short =
      let cut : length (drop at s) < 4 = omega (arith, length-drop at s) in
      rw (lt-ltb _ _ cut)

  -- the first j of n records
  records-widened :
      (a n j : ℕ) → j ≤ n → a + 4 * j ≤ length s →
      widen_records n next (drop a s)
      ≡ records j (λ g. group_bytes (widen_record s (a + 4 * g))) ++ widen_records (n - j) next (drop (a + 4 * j) s)
  unfolding records
  records-widened a n zero few whole =
      let same : a ≡ a + 4 * 0 = omega arith in
      ap₂ (λ m b. widen_records m next (drop b s)) (sym (sub-zero n)) same
  records-widened a n (suc j) few whole =
      records-widened a n j (omega arith) (omega arith)
      ∙ ap (λ x. records j wide ++ x) step
      ∙ sym (append_assoc (records j wide) (wide j) (widen_records (n - suc j) next (drop (a + 4 * suc j) s)))
    where
      wide : ℕ → List ℕ
      wide g = group_bytes (widen_record s (a + 4 * g))

      step : widen_records (n - j) next (drop (a + 4 * j) s) ≡ wide j ++ widen_records (n - suc j) next (drop (a + 4 * suc j) s)
      step =
          let less : n - j ≡ suc (n - suc j) = omega arith in
          let after : a + 4 * j + 4 ≡ a + 4 * suc j = omega arith in
          ap (λ m. widen_records m next (drop (a + 4 * j) s)) less
          ∙ record_widened (n - suc j) (a + 4 * j) (omega arith)
          ∙ ap (λ b. wide j ++ widen_records (n - suc j) next (drop b s)) after

  section-widened :
      (a j : ℕ) → j ≤ word s a → a + 2 + 4 * j ≤ length s →
      widen_section next (drop a s)
      ≡ bytes_of (word s a)
      ++ (records j (λ g. group_bytes (widen_record s (a + 2 + 4 * g)))
      ++ widen_records (word s a - j) next (drop (a + 2 + 4 * j) s))
  unfolding widen_section
  section-widened a j few whole =
      let long : 2 ≤ length (drop a s) = omega (arith, length-drop a s) in
      rw (le-ltb _ _ long, sym (word-part s a 0 a (omega arith)))
      (ap (λ x. bytes_of (word s a) ++ x)
      (ap (widen_records (word s a) next) (drop-drop 2 a s) ∙ records-widened (a + 2) (word s a) j few whole))

  pub section-whole :
      (a : ℕ) → a + 2 + 4 * word s a ≤ length s →
      widen_section next (drop a s)
      ≡ section (word s a) (λ g. group_bytes (widen_record s (a + 2 + 4 * g))) ++ next (drop (a + 2 + 4 * word s a) s)
  unfolding section widen_records
  section-whole a whole =
      let none : n - n ≡ 0 = omega arith in
      section-widened a n (omega arith) whole
      ∙ ap (λ m. bytes_of n ++ (records n wide ++ widen_records m next (drop (a + 2 + 4 * n) s))) none
      ∙ sym (append_assoc (bytes_of n) (records n wide) (next (drop (a + 2 + 4 * n) s)))
    where
      n : ℕ
      n = word s a

      wide : ℕ → List ℕ
      wide g = group_bytes (widen_record s (a + 2 + 4 * g))

  section-copied : (a : ℕ) → a ≤ length s → length s < a + 2 → widen_section next (drop a s) ≡ drop a s
  unfolding widen_section
  section-copied a inside short =
      let cut : length (drop a s) < 2 = omega (arith, length-drop a s) in
      rw (lt-ltb _ _ cut)

--------------------------------------------------------------------------------
-- The same limit on seven days

-- a test that says the same at each number
every_one : (n : ℕ) (t : ℕ → Bool) (b : Bool) → ((k : ℕ) → k < suc n → t k ≡ b) → every (suc n) t ≡ b
unfolding every
every_one zero t b same = same 0 (omega arith)
every_one (suc n) t b same =
    ap₂ ◌&&◌ (every_one n t b (λ k h. same k (omega arith))) (same (suc n) (omega arith)) ∙ twice b
  where
    twice : (b : Bool) → (b && b) ≡ b
    twice true = refl
    twice false = refl

none_alike :
    (s t : List ℕ) (own parent own' parent' : ℕ) → ((k : ℕ) → k < days → limit_at s own 0 ≡ limit_at t own' k) →
    ((k : ℕ) → k < days → limit_at s parent 0 ≡ limit_at t parent' k) →
    none_above s own parent (columns false) ≡ none_above t own' parent' (columns true)
unfolding none_above
none_alike s t own parent own' parent' here up =
    every_one 0 (λ k. leb (limit_at s own k) (limit_at s parent k)) fits first
    ∙ sym
    (every_one 6 (λ k. leb (limit_at t own' k) (limit_at t parent' k)) fits (λ k h. ap₂ leb (sym (here k h)) (sym (up k h))))
  where
    fits : Bool
    fits = leb (limit_at s own 0) (limit_at s parent 0)

    first : (k : ℕ) → k < 1 → leb (limit_at s own k) (limit_at s parent k) ≡ fits
    first k h =
        let only : k ≡ 0 = omega arith in
        ap (λ k. leb (limit_at s own k) (limit_at s parent k)) only

--------------------------------------------------------------------------------
-- Sections that are judged alike

-- the count is cut off at both places, or it is whole and the same, with records that have the same first fault
pub section-alike :
    (s : List ℕ) (a : ℕ) (t : List ℕ) (b most : ℕ) (over : Refusal) (width : ℕ) (checked checked' : Checked) →
    ltb (length s) (a + 2) ≡ ltb (length t) (b + 2) → (a + 2 ≤ length s → (word s a ≡ word t b) × (checked ≡ checked')) →
    section_by t b most over width checked' ≡ section_of (or_else (count_fault s a most over) checked) (word s a) (b + 2) width
unfolding count_fault
section-alike s a t b most over width checked checked' cut same =
    elim (dec_lt (length s) (a + 2)) [
      | yes short ↦
          let here = lt-ltb _ _ short in
          rw (here, sym cut ∙ here)
      | no h ↦
          let whole : a + 2 ≤ length s = omega arith in
          let here = le-ltb _ _ whole in
          rw (here, sym cut ∙ here, sym (same whole).0, sym (same whole).1)
    ]

-- what is left of t from b on is `next` of what is left of s from a on
pub record Follows (next : List ℕ → List ℕ) (s : List ℕ) (a : ℕ) (t : List ℕ) (b : ℕ) : Type 0 where
  pub part : drop b t ≡ next (drop a s)
  pub inside : a ≤ length s
  pub room : b ≤ length t

-- the first fault of the group section whose count stands at a place
abbrev pub groups_checked : Form → List ℕ → ℕ → Checked
groups_checked f s a = or_else (count_fault s a max_groups GroupCount) (groups_from f s (a + 2) 0 (word s a))

module _
    (stored : Bool) (day : ℕ) (next : List ℕ → List ℕ) (s : List ℕ) (a : ℕ) (t : List ℕ) (b : ℕ)
    (follows : Follows (widen_section next) s a t b)
  where
    abbrev old : Form
    old = record { week = false; stored = stored; day = day }

    abbrev new : Form
    new = record { week = true; stored = stored; day = day }

    abbrev n : ℕ
    n = word s a

    abbrev wide : ℕ → List ℕ
    wide g = group_bytes (widen_record s (a + 2 + 4 * g))

    wide-length : (g : ℕ) → length (wide g) ≡ 16
    wide-length g = group-length (widen_record s (a + 2 + 4 * g))

    abbrev left : ℕ → List ℕ
    left j = widen_records (n - j) next (drop (a + 2 + 4 * j) s)

    -- t from b on, where the first j records of s are whole
    module _ (j : ℕ) (few : j ≤ n) (whole : a + 2 + 4 * j ≤ length s) where
      with-records : drop b t ≡ bytes_of n ++ (records j wide ++ left j)
      with-records = follows.part ∙ section-widened next s a j few whole

      held : Holds t b (bytes_of n ++ (records j wide ++ left j))
      held i h = sym (get_or-drop b t i 0) ∙ ap (λ (r : List ℕ). get_or r i 0) with-records

      size : length t ≡ b + 2 + 16 * j + length (left j)
      size =
          omega (
            arith,
            follows.room,
            length-drop b t,
            ap length with-records,
            length-append (bytes_of n) (records j wide ++ left j),
            length-append (records j wide) (left j),
            records-length 16 wide wide-length j,
          )

    count-alike : ltb (length s) (a + 2) ≡ ltb (length t) (b + 2)
    count-alike =
        elim (dec_lt (length s) (a + 2)) [
          | yes short ↦
              let copied = ap length (follows.part ∙ section-copied next s a follows.inside short) in
              let there : length t < b + 2 = omega (arith, copied, length-drop b t, length-drop a s, follows) in
              lt-ltb _ _ short ∙ sym (lt-ltb _ _ there)
          | no h ↦
              let here : a + 2 ≤ length s = omega arith in
              let there : b + 2 ≤ length t = omega (arith, size 0 (omega arith) (omega arith)) in
              le-ltb _ _ here ∙ sym (le-ltb _ _ there)
        ]

    module _ (whole : a + 2 ≤ length s) where
      counted : word s a ≡ word t b
      counted =
          sym (word_back t b n (holds-first t b (bytes_of n) (records 0 wide ++ left 0) (held 0 (omega arith) (omega arith))))

      -- a record is cut off where its widening is: the whole ones before it have 16 bytes each, and less than 4 are copied
      cut-alike : (g : ℕ) → g < n → ltb (length s) (a + 2 + 4 * g + 4) ≡ ltb (length t) (b + 2 + 16 * g + 16)
      cut-alike g h =
          elim (dec_lt (length s) (a + 2 + 4 * g + 4)) [
            | yes short ↦
                let j = (length s - (a + 2)) / 4 in
                let at = a + 2 + 4 * j in
                let less : n - j ≡ suc (n - suc j) = omega arith in
                let copied : left j ≡ drop at s = ap (λ m. widen_records m next (drop at s)) less
                ∙ record_copied next s (n - suc j) at (omega arith) (omega arith) in
                let there : length t < b + 2 + 16 * g + 16 = omega (
                  arith,
                  size j (omega arith) (omega arith),
                  ap length copied,
                  length-drop at s,
                ) in
                lt-ltb _ _ short ∙ sym (lt-ltb _ _ there)
            | no long ↦
                let here : a + 2 + 4 * g + 4 ≤ length s = omega arith in
                let there : b + 2 + 16 * g + 16 ≤ length t = omega (arith, size (suc g) (omega arith) (omega arith)) in
                le-ltb _ _ here ∙ sym (le-ltb _ _ there)
          ]

      module _ (g : ℕ) (h : g < n) (fits : a + 2 + 4 * g + 4 ≤ length s) where
        group-widened : (k : ℕ) → k < days → group_at true k t (b + 2) g ≡ on_day_of (widen_record s (a + 2 + 4 * g)) k
        group-widened =
            group-back t (b + 2) g (widen_record s (a + 2 + 4 * g))
            (holds-record 16 wide wide-length t (b + 2) (suc g)
            (holds-first t (b + 2) (records (suc g) wide) (left (suc g))
            (holds-second t b (bytes_of n) (records (suc g) wide ++ left (suc g)) (b + 2) refl
            (held (suc g) (omega arith) (omega arith))))
            g (omega arith))

        parent-widened : word s (a + 2 + 4 * g) ≡ word t (b + 2 + 16 * g)
        parent-widened = sym (ap (λ (x : Group). x.parent) (group-widened 0 (omega arith)))

        limit-widened : (k : ℕ) → k < days → limit_at s (a + 2 + 4 * g) 0 ≡ limit_at t (b + 2 + 16 * g) k
        limit-widened k small = omega (arith, ap (λ (x : Group). x.limit) (group-widened k small))

      -- a smaller parent is one of the whole records too
      judged-alike : (g : ℕ) → g < n → a + 2 + 4 * g + 4 ≤ length s → group_fault old s (a + 2) g ≡ group_fault new t (b + 2) g
      judged-alike g h fits =
          fault-alike old true s t (a + 2) (b + 2) g (parent-widened g h fits)
          (λ small.
          none_alike s t _ _ _ _ (limit-widened g h fits) (limit-widened (word s (a + 2 + 4 * g)) (omega arith) (omega arith)))

      records-alike : groups_from old s (a + 2) 0 (word s a) ≡ groups_from new t (b + 2) 0 (word t b)
      records-alike =
          records-same (length s) (a + 2) 4 (length t) (b + 2) 16 (group_fault old s (a + 2)) (group_fault new t (b + 2)) n
          cut-alike judged-alike 0 n (omega arith)
          ∙ ap (groups_from new t (b + 2) 0) counted

    pub groups-alike :
        section_at (record { week = true; stored = stored; day = day }) t b
        ≡ section_of (groups_checked (record { week = false; stored = stored; day = day }) s a) (word s a) (b + 2) 16
    unfolding section_at
    groups-alike =
        section-alike s a t b max_groups GroupCount 16 (groups_from old s (a + 2) 0 n) (groups_from new t (b + 2) 0 (word t b))
        count-alike (λ whole. (counted whole, records-alike whole))

    pub follows-groups :
        groups_checked (record { week = false; stored = stored; day = day }) s a ≡ Ok tt →
        Follows next s (a + 2 + 4 * word s a) t (b + 2 + 16 * word s a)
    unfolding section_at
    follows-groups fine = record { part = part; inside = inside; room = omega (arith, size n (omega arith) inside) }
      where
        inside : a + 2 + 4 * n ≤ length s
        inside = (section-read s a n (a + 2) (a + 2 + 4 * n) old (ap (λ x. section_of x n (a + 2) 4) fine)).within

        part : drop (b + 2 + 16 * n) t ≡ next (drop (a + 2 + 4 * n) s)
        part =
            let place : b + 2 + 16 * n ≡ b + (2 + 16 * n) = omega arith in
            ap (λ (i : ℕ). drop i t) place
            ∙ sym (drop-drop (2 + 16 * n) b t)
            ∙ ap (drop (2 + 16 * n)) (follows.part ∙ section-whole next s a inside)
            ∙ drop_at (section n wide) (next (drop (a + 2 + 4 * n) s)) (2 + 16 * n) (section-length 16 n wide wide-length)
