-- Laws of the files in one buffer, judged one after the other: what `judge_files` and the functions below it rest on.
--   lengths_none lengths-many lengths-sum fit-lengths    the lengths
--   member-within member_is member-slice   file k lies within the buffer, and is the part at its place
--   member-read            it is read as that part is
--   gathered_none gathered-more gathered-fault   no file, one file more, and a file at fault
--   fault-place            the file at fault is one of those that are gathered
--   Taken gathered-taken   files of which none is at fault: each is accepted, and the sizes are sums
--   gathered-small         accepted files have at most 256 groups a side and 512 rows each
--   large-cards large-shops large-rows sizes-large sizes-ready small-enough    the bounds of the joined file
--   judged-files judged-by the judgement, by the lengths and by what is gathered
use mathlib.Core.Path.{◌≡◌, refl, sym, ap, ap₂, ◌∙◌}
use mathlib.Core.Bool.{true, false, false≢true, true≢false}
use mathlib.Core.List.{List}
use mathlib.Core.Logic.{◌⊎◌, inl, inr}
use Prim.Native.Nat.{ℕ, zero, suc, ◌+◌, ◌*◌, ◌-◌, ◌≤◌, ◌<◌}
use native.Mathlib.Numerals.{add-one}
use native.Mathlib.Decide.{ℕ_discrete, dec_lt}
use native.Mathlib.Omega.{arith}
use lib.Dec.{ltb, eqb}
use lib.ListN.{length}
use borrow.Author.Tests.{lt-ltb, le-ltb, eq-eqb, ne_eqb, eqb-true}
use Rattle.theory.specs.Sum.{sum}
use Rattle.theory.proofs.SumLaws.{sum_bound}
use Rattle.claimfile.specs.File.{new_week}
use Rattle.claimfile.specs.Sound.{Sound}
use Rattle.claimfile.specs.declared.Layout.{Layout}
use Rattle.reader.specs.Reading.{reading, Reading}
use Rattle.reader.specs.declared.Refusal.{Refusal}
use Rattle.reader.proofs.AcceptedLaws.{accepted-sound}
use Rattle.claimwriter.specs.Written.{layout_in}
use Rattle.counters.proofs.PartLaws.{part_end}
use Rattle.refusal.specs.declared.Reason.TheVariants.{Files, Large}
use Rattle.members.specs.declared.Sizes.{Sizes}
use Rattle.members.specs.Members.{most_files, length_of, part_at, member_of, reading_of, layouts_of, lengths_fit, none, more}
use Rattle.members.specs.Members.{Gathered, AllOf, Faulty, and_then, gathered, too_large, judged_by, judged}
use Rattle.members.specs.declared.Fault.TheVariants.{Whole}
use Rattle.std.specs.Prelude.{Ok, Err}

--------------------------------------------------------------------------------
-- The lengths

module _ (total : ℕ) (ls : List ℕ) where
  pub lengths_none : length ls ≡ 0 → false ≡ lengths_fit total ls
  unfolding lengths_fit
  lengths_none e = rw (eq-eqb _ _ e)

  module _ (some : length ls ≡ 0 → ⊥) where
    pub lengths-many : most_files < length ls → false ≡ lengths_fit total ls
    unfolding lengths_fit
    lengths-many h = rw (ne_eqb _ _ some, lt-ltb _ _ h)

    pub lengths-sum : length ls ≤ most_files → eqb (sum (length ls) (length_of ls)) total ≡ lengths_fit total ls
    unfolding lengths_fit
    lengths-sum h = rw (ne_eqb _ _ some, le-ltb _ _ h)

  pub record Lengths : Type 0 where
    pub few : length ls ≤ most_files
    pub adds : sum (length ls) (length_of ls) ≡ total

  pub fit-lengths : lengths_fit total ls ≡ true → Lengths
  fit-lengths e =
      elim (ℕ_discrete (length ls) 0) [
        | yes z ↦ absurd (false≢true (lengths_none z ∙ e))
        | no some ↦
            elim (dec_lt most_files (length ls)) [
              | yes h ↦ absurd (false≢true (lengths-many some h ∙ e))
              | no h ↦ record { few = omega arith; adds = eqb-true _ _ (lengths-sum some (omega arith) ∙ e) }
            ]
      ]

-- file k, by the place and the length that are kept when the files are gone through
module _ (b ls : List ℕ) (k at len : ℕ) (place : at ≡ sum k (length_of ls)) (long : len ≡ length_of ls k) where
  pub member-within : lengths_fit (length b) ls ≡ true → k < length ls → at + len ≤ length b
  member-within e h =
      omega (arith, place, long, (fit-lengths (length b) ls e).adds, part_end (length_of ls) (length ls) k h)

  pub member_is : part_at b at len ≡ member_of b ls k
  member_is = ap₂ (part_at b) place long

  pub member-slice : part_at b at (at + len - at) ≡ member_of b ls k
  member-slice =
      let e : at + len - at ≡ len = omega arith in
      ap (part_at b at) e ∙ member_is

  pub member-read : (day : ℕ) (x y : Reading) → x ≡ reading (new_week day) (part_at b at len) → x ≡ y → reading_of day b ls k ≡ y
  member-read day x y is e = ap (reading (new_week day)) (sym member_is) ∙ sym is ∙ e

--------------------------------------------------------------------------------
-- The readings, lowest file first

one_size : (g : Gathered) (y z : Sizes) → g ≡ AllOf y → g ≡ AllOf z → y ≡ z
one_size g y z p q = cc

not-faulty : {A : Type 0} (g : Gathered) (k : ℕ) (why : Refusal) (z : Sizes) → g ≡ Faulty k why → g ≡ AllOf z → A
not-faulty g k why z p q =
    let e : ◌≡◌ {A = ℕ} 0 1 = cc in
    absurd (omega arith)

module _ (rd : ℕ → Reading) where
  pub gathered_none : gathered rd 0 ≡ AllOf none
  unfolding gathered
  gathered_none = refl

  gathered-suc : (k : ℕ) → gathered rd (suc k) ≡ and_then k (gathered rd k) (rd k)
  unfolding gathered
  gathered-suc k = refl

  next : (k : ℕ) → gathered rd (k + 1) ≡ and_then k (gathered rd k) (rd k)
  next k = ap (gathered rd) (add-one k) ∙ gathered-suc k

  pub gathered-more :
      (k : ℕ) (z : Sizes) (l : Layout) → gathered rd k ≡ AllOf z → rd k ≡ Ok l → gathered rd (k + 1) ≡ AllOf (more z l)
  gathered-more k z l e f = next k ∙ ap₂ (and_then k) e f

  -- the lowest file at fault is the one that is told
  stays : (j : ℕ) (why : Refusal) (n k : ℕ) → k ≤ n → gathered rd k ≡ Faulty j why → gathered rd n ≡ Faulty j why
  stays j why zero k h e = ap (gathered rd) (let q : 0 ≡ k = omega arith in q) ∙ e
  stays j why (suc n) k h e =
      elim (ℕ_discrete k (suc n)) [
        | yes q ↦ ap (gathered rd) (sym q) ∙ e
        | no q ↦ gathered-suc n ∙ ap (λ g. and_then n g (rd n)) (stays j why n k (omega arith) e)
      ]

  pub gathered-fault :
      (n k : ℕ) (z : Sizes) (why : Refusal) → k < n → gathered rd k ≡ AllOf z → rd k ≡ Err why →
      gathered rd n ≡ Faulty k why
  gathered-fault n k z why h e f = stays k why n (k + 1) (omega arith) (next k ∙ ap₂ (and_then k) e f)

  -- the file that is told is one of those that are gathered
  fault-step :
      (n : ℕ) (g : Gathered) (x : Reading) (k : ℕ) (why : Refusal) → and_then n g x ≡ Faulty k why → (g ≡ Faulty k why) ⊎ (k ≡ n)
  fault-step n (AllOf z) (Ok l) k why e = not-faulty (Faulty k why) k why (more z l) refl (sym e)
  fault-step n (AllOf z) (Err w) k why e = inr cc
  fault-step n (Faulty j w) x k why e = inl e

  pub fault-place : (n k : ℕ) (why : Refusal) → gathered rd n ≡ Faulty k why → k < n
  fault-place zero k why e = not-faulty (gathered rd 0) k why none e gathered_none
  fault-place (suc n) k why e =
      elim (fault-step n (gathered rd n) (rd n) k why (sym (gathered-suc n) ∙ e)) [
        | inl q ↦ omega (arith, fault-place n k why q)
        | inr q ↦ omega arith
      ]

  pub record Taken (n : ℕ) (z : Sizes) : Type 0 where
    pub each : (k : ℕ) → k < n → rd k ≡ Ok (layout_in (rd k))
    pub cards : z.cards ≡ sum n (λ k. (layout_in (rd k)).cards)
    pub shops : z.shops ≡ sum n (λ k. (layout_in (rd k)).shops)
    pub rows : z.rows ≡ sum n (λ k. (layout_in (rd k)).rows)

  none-taken : Taken 0 none
  unfolding sum
  none-taken = record { each = λ k h. absurd (omega arith); cards = refl; shops = refl; rows = refl }

  more-taken : (n : ℕ) (z : Sizes) (l : Layout) → Taken n z → rd n ≡ Ok l → Taken (suc n) (more z l)
  unfolding sum
  more-taken n z l t e = record {
    each = λ k h.
        elim (ℕ_discrete k n) [
          | yes q ↦ ap rd q ∙ e ∙ ap Ok (sym (ap layout_in (ap rd q ∙ e)))
          | no q ↦ t.each k (omega arith)
        ];
    cards = omega (arith, t.cards, ap (λ (x : Reading). (layout_in x).cards) e);
    shops = omega (arith, t.shops, ap (λ (x : Reading). (layout_in x).shops) e);
    rows = omega (arith, t.rows, ap (λ (x : Reading). (layout_in x).rows) e);
  }

  pub gathered-taken : (n : ℕ) (z : Sizes) → gathered rd n ≡ AllOf z → Taken n z
  gathered-taken zero z e = rw (one_size (gathered rd 0) z none e gathered_none) none-taken
  gathered-taken (suc n) z e = before (λ y p. gathered-taken n y p) (gathered rd n) refl
    where
      before : ((y : Sizes) → gathered rd n ≡ AllOf y → Taken n y) → (g : Gathered) → gathered rd n ≡ g → Taken (suc n) z
      before smaller (Faulty j why) p =
          not-faulty (gathered rd (suc n)) j why z (gathered-suc n ∙ ap (λ g. and_then n g (rd n)) p) e
      before smaller (AllOf y) p = here (rd n) refl
        where
          here : (x : Reading) → rd n ≡ x → Taken (suc n) z
          here (Err why) q = not-faulty (gathered rd (suc n)) n why z (gathered-suc n ∙ ap₂ (and_then n) p q) e
          here (Ok l) q =
              rw (one_size (gathered rd (suc n)) z (more y l) e (gathered-suc n ∙ ap₂ (and_then n) p q))
              (more-taken n y l (smaller y p) q)

module _ (day : ℕ) (b ls : List ℕ) where
  pub record Small (n : ℕ) (z : Sizes) : Type 0 where
    pub cards : z.cards ≤ n * 256
    pub shops : z.shops ≤ n * 256
    pub rows : z.rows ≤ n * 512

  pub gathered-small : (n : ℕ) (z : Sizes) → gathered (reading_of day b ls) n ≡ AllOf z → Small n z
  gathered-small n z e =
      let t = gathered-taken (reading_of day b ls) n z e in
      let sound : (k : ℕ) → k < n → Sound (member_of b ls k) (layouts_of day b ls k) =
      λ k h. accepted-sound (new_week day) (member_of b ls k) (layouts_of day b ls k) (t.each k h) in
      record {
        cards = omega (arith, t.cards, sum_bound n 256 {f = λ k. (layouts_of day b ls k).cards} (λ k h. (sound k h).cards_most));
        shops = omega (arith, t.shops, sum_bound n 256 {f = λ k. (layouts_of day b ls k).shops} (λ k h. (sound k h).shops_most));
        rows = omega (arith, t.rows, sum_bound n 512 {f = λ k. (layouts_of day b ls k).rows} (λ k h. (sound k h).rows_most));
      }

--------------------------------------------------------------------------------
-- The sizes

module _ (z : Sizes) where
  pub large-cards : 256 < z.cards → true ≡ too_large z
  large-cards h = rw (lt-ltb _ _ h)

  pub large-shops : z.cards ≤ 256 → 256 < 1 + z.shops → true ≡ too_large z
  large-shops h k = rw (le-ltb _ _ h, lt-ltb _ _ k)

  pub large-rows : z.cards ≤ 256 → 1 + z.shops ≤ 256 → ltb 512 z.rows ≡ too_large z
  large-rows h k = rw (le-ltb _ _ h, le-ltb _ _ k)

  pub sizes-large : too_large z ≡ true → Err (Whole Large) ≡ judged_by (AllOf z)
  sizes-large e = rw e

  pub sizes-ready : too_large z ≡ false → Ok z ≡ judged_by (AllOf z)
  sizes-ready e = rw e

  pub small-enough : too_large z ≡ false → (z.cards ≤ 256) × (1 + z.shops ≤ 256) × (z.rows ≤ 512)
  small-enough e =
      elim (dec_lt 256 z.cards) [
        | yes h ↦ absurd (true≢false (large-cards h ∙ e))
        | no a ↦
            elim (dec_lt 256 (1 + z.shops)) [
              | yes h ↦ absurd (true≢false (large-shops (omega arith) h ∙ e))
              | no b ↦
                  elim (dec_lt 512 z.rows) [
                    | yes h ↦ absurd (true≢false (sym (lt-ltb _ _ h) ∙ large-rows (omega arith) (omega arith) ∙ e))
                    | no c ↦ (omega arith, omega arith, omega arith)
                  ]
            ]
      ]

--------------------------------------------------------------------------------
-- The judgement

module _ (day : ℕ) (b ls : List ℕ) where
  pub judged-files : lengths_fit (length b) ls ≡ false → Err (Whole Files) ≡ judged day b ls
  unfolding judged
  judged-files e = rw e

  pub judged-by : lengths_fit (length b) ls ≡ true → judged_by (gathered (reading_of day b ls) (length ls)) ≡ judged day b ls
  unfolding judged
  judged-by e = rw e
