-- Laws of a group that is passed, while the canonical file is being written.
--   records-on             the canonical file has the used groups of a side
--   number-inside          a group of the canonical file has a number below the count of used groups
--   held-group             a group record that stands at its place is read there, on every day
--   group-most             a group's number is below 256
--   put-dropped            a group was passed over since it is dropped
--   number-placed          the file has a place for the number of a used group
--   above-put limit-new    the record of its parent was put before, so each limit in its new record is the file's as lowered
--   record_for put-used    its new record, and that it was put
use mathlib.Core.Bool.{true}
use mathlib.Core.Path.{◌≡◌, refl, sym, ap, ◌∙◌, subst}
use mathlib.Core.Logic.{◌⊎◌, inl, inr}
use mathlib.Core.List.{List}
use Prim.Native.Nat.{ℕ, zero, suc, ◌+◌, min, ◌≤◌, ◌<◌}
use native.Mathlib.Decide.{dec_lt}
use native.Mathlib.Omega.{arith}
use Rattle.theory.specs.Bounds.{max_groups}
use Rattle.theory.specs.Matroid.{row}
use Rattle.claimfile.specs.declared.Layout.{Layout}
use Rattle.claimfile.specs.declared.Group.{Group}
use Rattle.claimfile.specs.File.{days, group_at}
use Rattle.claimfile.specs.Day.{start_of, count_of, group_of, on_day}
use Rattle.claimwriter.specs.Written.{WeekGroup, week_group, on_day_of, records_on, group_bytes, layout_for, SameGroup}
use Rattle.claimwriter.specs.Put.{Holds, Put, group_place}
use Rattle.claimfile.proofs.WidthLaws.{column-in}
use Rattle.claimfile.proofs.DayLaws.{side-most}
use Rattle.claimwriter.proofs.BegunLaws.{begun-less, begun-group}
use Rattle.claimwriter.proofs.WrittenLaws.{group-back}
use Rattle.renumber.specs.Side.{Side, used_groups, number, group}
use Rattle.renumber.specs.Canonical.{side_of, canonical_contents, Used}
use Rattle.records.specs.Records.{parent_for, limit_for, LimitsTo, GroupsTo, PutTo, Ready, Numbered}
use Rattle.renumber.proofs.ChainLaws.{SoundSide}
use Rattle.renumber.proofs.OrderLaws.{number_small, group-used, number-group, group-number}
use Rattle.renumber.proofs.SideLaws.{few-groups}
use Rattle.renumber.proofs.DayLaws.{side-sound, side-limit-top, side-limit-below}
use Rattle.records.proofs.RecordLaws.{cell-used, cell_below, low-used, high-dropped, for-top, limit-lower, limit-past, word_for, above-used, above-number, parent-new}

--------------------------------------------------------------------------------
-- The groups of the canonical file

-- one law for both sides
pub records-on :
    (s : List ℕ) (l : Layout) (side : ℕ) → records_on (canonical_contents s l) side ≡ used_groups (side_of s l side)
records-on s l zero = refl
records-on s l (suc n) = refl

-- a group of the canonical file has a number below the count of used groups
pub number-inside :
    (s : List ℕ) (l : Layout) (x side i : ℕ) → x ≡ side → i < records_on (canonical_contents s l) x →
    i < used_groups (side_of s l side)
number-inside s l x side i e h = omega (arith, records-on s l x, ap (λ (y : ℕ). used_groups (side_of s l y)) e)

module _ (cards shops rows : ℕ) (t : List ℕ) (group : WeekGroup) (k : ℕ) (day : k < days) where
  abbrev laid : Layout
  laid = layout_for cards shops rows

  held-group :
      (side g : ℕ) → Holds t (group_place laid side g) (group_bytes group) → group_of t (on_day laid k) side g ≡ on_day_of group k
  held-group zero g held =
      ap (λ x. group_at true x t 2 g) (column-in true k refl day) ∙ group-back t 2 g group held k day
  held-group (suc n) g held =
      ap (λ x. group_at true x t (start_of laid 1) g) (column-in true k refl day)
      ∙ group-back t (start_of laid 1) g group held k day

--------------------------------------------------------------------------------
-- One group

module _ {s : List ℕ} {l new : Layout} {side g : ℕ} {out : List ℕ} (ready : Ready s l new side g 0 out)
    (inside : g < count_of l side) {t : List ℕ} (numbers : Numbered s l new side t) where
  abbrev d : Side
  d = side_of s l side

  abbrev sound : SoundSide (side_of s l side)
  sound = side-sound ready.given.sound side

  pub group-most : g < max_groups
  group-most = omega (arith, side-most s l ready.given.sound side)

  -- the group that is passed now
  last :
      (x i : ℕ) → i < records_on (canonical_contents s l) x → GroupsTo s l side (g + 1) x i →
      GroupsTo s l side g x i ⊎ ((x ≡ side) × (i < used_groups d) × (group d i ≡ g))
  last x i h (inl m) = inl (inl m)
  last x i h (inr q) =
      elim (dec_lt (group d i) g) [
        | yes before ↦ inl (inr (q.0, before))
        | no n ↦ inr (q.0, number-inside s l x side i q.0 h, omega (arith, q.1))
      ]

  pub put-dropped : max_groups ≤ row t g → PutTo s l side (g + 1) 0 out out
  put-dropped high =
      record { begun = begun-less (canonical_contents s l) ready.put.begun passed (λ c h m. m) }
    where
      passed :
          (x i : ℕ) → i < records_on (canonical_contents s l) x → GroupsTo s l side (g + 1) x i → GroupsTo s l side g x i
      passed x i h now =
          elim (last x i h now) [
            | inl before ↦ before
            | inr q ↦
                absurd
                (high-dropped sound numbers g (side-most s l ready.given.sound side) high
                (subst (Used d) q.2 (group-used sound i q.1)))
          ]

  module _ {k : ℕ} (cell : k ≡ row t g) (low : k < max_groups) where
    is-used : Used d g
    is-used = low-used sound numbers g inside (omega arith)

    pub number-placed : k < count_of new side
    number-placed = omega (arith, cell_below sound numbers g is-used)

    numbered : k ≡ number d g
    numbered = cell ∙ cell-used sound numbers g is-used

    abbrev above : ℕ
    above = (group_of s l side g).parent

    used-above : above < g → Used d above
    used-above = above-used ready.given.sound side numbers g is-used

    module _ (i : ℕ) (day : i < days) where
      -- a smaller parent was put before, with its limit
      above-put : above < g → (group_of out (on_day new i) side (number d above)).limit ≡ d.limit i above
      above-put lower =
          let made = canonical_contents s l in
          let j = number d above in
          let back = group-number sound above (used-above lower) in
          let small = number_small sound above (used-above lower) in
          let put = ready.put.begun.groups side j (omega (arith, records-on s l side, small)) (inr (refl, omega (arith, back))) in
          ap (λ (k : Layout). (group_of out (on_day k i) side j).limit) ready.given.layout
          ∙ ap (λ (x : Group). x.limit) (held-group made.cards made.shops made.rows out _ i day side j put)
          ∙ ap (d.limit i) back

      limit-new : limit_for out new i side (parent_for t g above) (group_of s (on_day l i) side g).limit ≡ d.limit i g
      limit-new =
          elim (dec_lt above g) [
            | yes lower ↦
                ap (λ (p : ℕ). limit_for out new i side p own) (above-number ready.given.sound side numbers g is-used lower)
                ∙ limit-lower out new i side (number d above) own refl
                (omega (arith, numbers.count, number_small sound above (used-above lower)))
                ∙ ap (min own) (above-put lower)
                ∙ sym (side-limit-below s l i side g inside lower)
            | no h ↦
                let past : g ≤ above = omega arith in
                limit-past out new i side (parent_for t g above) own
                (omega (
                  arith,
                  for-top t g above past,
                  numbers.count,
                  few-groups d,
                  side-most s l ready.given.sound side,
                ))
                ∙ sym (side-limit-top s l i side g inside past)
          ]
        where
          own : ℕ
          own = (group_of s (on_day l i) side g).limit

    record_for :
        {p : ℕ} {limits : List ℕ} → p ≡ parent_for t g above → LimitsTo s l new side g p out days limits →
        SameGroup (week_group p (row limits)) ((canonical_contents s l).group side k)
    record_for {p} parent made =
        record {
          parent =
              parent
              ∙ parent-new ready.given.sound side numbers g is-used
              ∙ ap (λ (h : ℕ). word_for d (d.parent h)) (sym back);
          limits = λ i day.
              made.each i day
              ∙ ap (λ (x : ℕ). limit_for out new i side x (group_of s (on_day l i) side g).limit) parent
              ∙ limit-new i day
              ∙ ap (d.limit i) (sym back);
        }
      where
        back : group d k ≡ g
        back = ap (group d) numbered ∙ group-number sound g is-used

    pub put-used :
        {found : Group} {p : ℕ} {limits out' : List ℕ} → found ≡ group_of s l side g → p ≡ parent_for t g found.parent →
        LimitsTo s l new side g p out days limits → Put out out' (group_place new side k) (group_bytes (week_group p (row limits))) →
        PutTo s l side (g + 1) 0 out out'
    put-used is parent made put =
        record {
          begun =
              begun-group (canonical_contents s l) ready.put.begun (λ n h. refl) side k
              (omega (arith, number-placed, numbers.count, records-on s l side)) ready.given.layout
              (record_for (parent ∙ ap (λ (x : Group). parent_for t g x.parent) is) made) passed put;
        }
      where
        passed :
            (x i : ℕ) → i < records_on (canonical_contents s l) x → GroupsTo s l side (g + 1) x i →
            GroupsTo s l side g x i ⊎ ((x ≡ side) × (i ≡ k))
        passed x i h now =
            elim (last x i h now) [
              | inl before ↦ inl before
              | inr q ↦
                  inr (
                    q.0,
                    sym (number-group sound i q.1) ∙ ap (number d) q.2 ∙ sym numbered,
                  )
            ]
