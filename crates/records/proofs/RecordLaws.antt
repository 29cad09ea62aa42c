-- Laws of a record of the canonical file, in the new numbers.
--   cell-used cell_below   the cell of a used group: its new number, which is below the count of used groups
--   low-used high-dropped  a group with a cell below 256 is used, and one with a greater cell is not
--   for-lower for-top      the number for a parent in a new record
--   limit-lower limit-past the limit of a day in a new record
--   limits-start limits-next   the limits in a new record, day by day
--   word_for d p            the number for a parent p in the new numbers
--   above-used above-number    a smaller parent of a used group is used, and has its new number
--   parent-new             the number for the parent of a used group in the new numbers
use mathlib.Core.Path.{◌≡◌, sym, ap, ◌∙◌, subst}
use mathlib.Core.Logic.{inl, inr}
use mathlib.Core.List.{List}
use Prim.Native.Nat.{ℕ, ◌+◌, min, ◌≤◌, ◌<◌}
use native.Mathlib.Decide.{ℕ_discrete, dec_lt}
use native.Mathlib.Omega.{arith}
use lib.Dec.{ltb}
use lib.ListN.{length, set, length-set}
use lib.Seq.{get_or-set_same, get_or-set_other}
use borrow.Author.Tests.{lt-ltb, le-ltb}
use Rattle.theory.specs.Bounds.{max_groups}
use Rattle.theory.specs.Sum.{pick}
use Rattle.theory.specs.Matroid.{row}
use Rattle.claimfile.specs.declared.Layout.{Layout}
use Rattle.claimfile.specs.declared.Group.{Group}
use Rattle.claimfile.specs.File.{top, days}
use Rattle.claimfile.specs.Day.{count_of, group_of, on_day}
use Rattle.claimfile.specs.Sound.{Sound}
use Rattle.sides.proofs.ParentLaws.{parent-lower, parent-root}
use Rattle.renumber.specs.Side.{Side, used_groups, number, new_parent}
use Rattle.renumber.specs.Canonical.{side_of, Used}
use Rattle.renumber.specs.Numbers.{Numbers}
use Rattle.records.specs.Records.{parent_for, limit_for, LimitsTo}
use Rattle.renumber.proofs.ChainLaws.{SoundSide}
use Rattle.renumber.proofs.OrderLaws.{used-or-not, used-inside, parent-used, number_small}
use Rattle.renumber.proofs.SideLaws.{few-groups}
use Rattle.renumber.proofs.DayLaws.{side-sound}

--------------------------------------------------------------------------------
-- The table of new numbers

module _ {d : Side} (sound : SoundSide d) {t : List ℕ} {n : ℕ} (numbers : Numbers d t n) (g : ℕ) where
  pub cell-used : Used d g → row t g ≡ number d g
  cell-used u = numbers.used g u

  pub cell_below : Used d g → row t g < n
  cell_below u = omega (arith, cell-used u, number_small sound g u, numbers.count)

  pub low-used : g < d.groups → row t g < max_groups → Used d g
  low-used inside low =
      elim (used-or-not d g) [
        | inl u ↦ u
        | inr n ↦ absurd (omega (arith, numbers.dropped g inside n))
      ]

  pub high-dropped : d.groups ≤ max_groups → max_groups ≤ row t g → ¬ Used d g
  high-dropped most high u = omega (arith, cell_below u, numbers.count, few-groups d)

--------------------------------------------------------------------------------
-- A record in the new numbers

module _ (t : List ℕ) (g up : ℕ) where
  pub for-lower : up < g → parent_for t g up ≡ row t up
  for-lower lower = rw (lt-ltb _ _ lower)

  pub for-top : g ≤ up → parent_for t g up ≡ top
  for-top past = rw (le-ltb _ _ past)

module _ (t : List ℕ) (new : Layout) (day side parent limit : ℕ) where
  pub limit-lower :
      {up : Group} → up ≡ group_of t (on_day new day) side parent → parent < count_of new side →
      limit_for t new day side parent limit ≡ min limit up.limit
  limit-lower is lower = rw (lt-ltb _ _ lower) (ap (λ (x : Group). min limit x.limit) (sym is))

  pub limit-past : count_of new side ≤ parent → limit_for t new day side parent limit ≡ limit
  limit-past past = rw (le-ltb _ _ past)

module _ {s : List ℕ} {l new : Layout} {side g parent : ℕ} {t : List ℕ} where
  pub limits-start : {limits : List ℕ} → length limits ≡ days → LimitsTo s l new side g parent t 0 limits
  limits-start size = record { size = size; each = λ k h. absurd (omega arith) }

  pub limits-next :
      {n : ℕ} {limits : List ℕ} {x : ℕ} → n < days → LimitsTo s l new side g parent t n limits →
      x ≡ limit_for t new n side parent (group_of s (on_day l n) side g).limit →
      LimitsTo s l new side g parent t (n + 1) (set limits n x)
  limits-next {n} {limits} {x} small to is =
      record {
        size = length-set limits n x ∙ to.size;
        each = λ k h.
            elim (ℕ_discrete k n) [
              | yes e ↦ rw e (get_or-set_same limits n x 0 (omega (arith, to.size)) ∙ is)
              | no other ↦ get_or-set_other limits n k x 0 other ∙ to.each k (omega (arith, other))
            ];
      }

-- the number for a parent p in the new numbers
abbrev pub word_for : Side → ℕ → ℕ
word_for d p = pick (ltb (new_parent d p) (used_groups d)) (new_parent d p) top

word_number : (d : Side) (p : ℕ) → p < d.groups → number d p < used_groups d → word_for d p ≡ number d p
word_number d p h l = rw (lt-ltb _ _ h, lt-ltb _ _ l)

word-top : (d : Side) → word_for d d.groups ≡ top
word-top d =
    let all : d.groups ≤ d.groups = omega arith in
    let most : used_groups d ≤ used_groups d = omega arith in
    rw (le-ltb _ _ all, le-ltb _ _ most)

module _ {s : List ℕ} {l : Layout} (sound : Sound s l) (side : ℕ) where
  abbrev old : Side
  old = side_of s l side

  abbrev sound-side : SoundSide (side_of s l side)
  sound-side = side-sound sound side

  module _ {t : List ℕ} {n : ℕ} (numbers : Numbers (side_of s l side) t n) (g : ℕ) (u : Used (side_of s l side) g) where
    abbrev up : ℕ
    up = (group_of s l side g).parent

    inside : g < count_of l side
    inside = used-inside sound-side g u

    pub above-used : up < g → Used (side_of s l side) up
    above-used lower =
        let is : up ≡ old.parent g = parent-lower old.groups up g lower in
        subst (Used old) (sym is) (parent-used sound-side g u (omega (arith, inside)))

    pub above-number : up < g → parent_for t g up ≡ number (side_of s l side) up
    above-number lower = for-lower t g up lower ∙ cell-used sound-side numbers up (above-used lower)

    pub parent-new : parent_for t g up ≡ word_for old (old.parent g)
    parent-new =
        elim (dec_lt up g) [
          | yes lower ↦
              let is : up ≡ old.parent g = parent-lower old.groups up g lower in
              above-number lower
              ∙ sym (word_number old up (omega (arith, inside)) (number_small sound-side up (above-used lower)))
              ∙ ap (word_for old) is
          | no h ↦
              let past : g ≤ up = omega arith in
              for-top t g up past ∙ sym (word-top old) ∙ ap (word_for old) (parent-root old.groups up g past)
        ]
