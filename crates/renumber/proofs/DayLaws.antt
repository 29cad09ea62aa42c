-- Laws of the sides of a sound file, and of two files that differ only in group numbering and in groups that are dropped: such files
-- are called the same here.
--   count-day side-day sound-day   the counts, the sides and what holds of a sound file are the same on every day
--   day-asked day-limit    what is asked to read a group on another day, and the limit that is read
--   side-sound             parents on a side are smaller groups or the top, and rows name groups
--   side-limit-top side-limit-below    the limit of a group on a day, by its record: the written one, or its parent's where that is less
--   side-lowered           on no day a group's limit is above its parent's
--   new-side-limit         the limits of a new file are those in its records, on every day
--   same_rows              the same files have as many rows
--   same-turned same-trans that two files are the same is symmetric and transitive
--   same-on-day            and it is so whichever days their layouts have
use mathlib.Core.Bool.{false}
use mathlib.Core.Path.{◌≡◌, refl, sym, ap, ◌∙◌, subst₂}
use mathlib.Core.List.{List}
use Prim.Native.Nat.{ℕ, zero, suc, ◌+◌, min, ◌≤◌, ◌<◌}
use native.Mathlib.Decide.{dec_lt}
use native.Mathlib.Omega.{arith}
use Rattle.claimfile.specs.declared.Form.{Form}
use Rattle.claimfile.specs.declared.Layout.{Layout}
use Rattle.reader.specs.Reading.{reading}
use Rattle.claimfile.specs.Day.{count_of, group_of, on_day, first_of, limit_of}
use Rattle.claimfile.specs.Sound.{SmallerOrTop, Sound, NoneAbove}
use Rattle.reader.proofs.AcceptedLaws.{new-below}
use Rattle.claimfile.proofs.DayLaws.{side-room, written_on, limit-top, limit-below, limit-written}
use Rattle.sides.specs.Side.{limit_in}
use Rattle.sides.proofs.ParentLaws.{side-rooted, parent-lower, parent-root}
use Rattle.renumber.specs.Canonical.{Renumbering, named, side_of, SameDay}
use Rattle.renumber.proofs.ChainLaws.{SoundSide}
use Rattle.renumber.proofs.MapLaws.{turned, renumbered-trans}
use Rattle.renumber.proofs.SideLaws.{Lowered}
use Rattle.std.specs.Prelude.{Ok}

--------------------------------------------------------------------------------
-- Another day

-- one law for both sides
count-day : (l : Layout) (d side : ℕ) → count_of (on_day l d) side ≡ count_of l side
count-day l d zero = refl
count-day l d (suc n) = refl

module _ (s : List ℕ) (l : Layout) (d : ℕ) where
  pub side-day : (side : ℕ) → side_of s (on_day l d) side ≡ side_of s l side
  side-day zero = refl
  side-day (suc n) = refl

  pub sound-day : Sound s l → Sound s (on_day l d)
  sound-day sound =
      record {
        card_place = sound.card_place;
        shop_place = sound.shop_place;
        row_place = sound.row_place;
        size = sound.size;
        cards_most = sound.cards_most;
        shops_most = sound.shops_most;
        rows_most = sound.rows_most;
        parents = λ side. parents side;
        row_cards = sound.row_cards;
        row_shops = sound.row_shops;
      }
    where
      parents :
          (side g : ℕ) → g < count_of (on_day l d) side → SmallerOrTop g (group_of s (on_day l d) side g).parent
      parents zero = sound.parents 0
      parents (suc n) = sound.parents (suc n)

-- to read a group on another day
pub day-asked :
    {s : List ℕ} {l m : Layout} {k : ℕ} → m ≡ on_day l k → Sound s l → (side g : ℕ) → g < count_of l side →
    Sound s m × (g < count_of m side)
day-asked {s} {l} {m} {k} is sound side g h = rw is (sound-day s l k sound, omega (arith, count-day l k side))

-- and the limit that is read
pub day-limit :
    (s : List ℕ) {k l : Layout} (side g : ℕ) → k ≡ l → (group_of s k side g).limit ≡ (group_of s l side g).limit
day-limit s side g is = ap (λ (x : Layout). (group_of s x side g).limit) is

--------------------------------------------------------------------------------
-- The sides

module _ {s : List ℕ} {l : Layout} (sound : Sound s l) where
  named-inside : (side c : ℕ) → c < l.rows → named s l side c < count_of l side
  named-inside zero = sound.row_cards
  named-inside (suc n) = sound.row_shops

  pub side-sound : (side : ℕ) → SoundSide (side_of s l side)
  side-sound side = record { rooted = side-rooted s l side; named = λ c h. omega (arith, named-inside side c h) }

none-day : (s : List ℕ) (l : Layout) (k : ℕ) → NoneAbove s l → NoneAbove s (on_day l k)
none-day s l k none d zero = none d 0
none-day s l k none d (suc n) = none d (suc n)

-- on the layout's own day
own-limit :
    (s : List ℕ) (l : Layout) → NoneAbove s l → (side g : ℕ) → g < count_of l side →
    limit_of s l (first_of l side + g) ≡ limit_in s l side g
own-limit s l none side g h =
    limit-written s l none (first_of l side + g) (omega (arith, side-room l side)) ∙ written_on s l side g h

module _ (s : List ℕ) (l : Layout) where
  pub side-limit-top :
      (k side g : ℕ) → g < count_of l side → g ≤ (group_of s l side g).parent →
      (side_of s l side).limit k g ≡ (group_of s (on_day l k) side g).limit
  side-limit-top k zero = limit-top s (on_day l k) 0
  side-limit-top k (suc n) = limit-top s (on_day l k) (suc n)

  pub side-limit-below :
      (k side g : ℕ) → g < count_of l side → (group_of s l side g).parent < g →
      (side_of s l side).limit k g
      ≡ min (group_of s (on_day l k) side g).limit ((side_of s l side).limit k (group_of s l side g).parent)
  side-limit-below k zero = limit-below s (on_day l k) 0
  side-limit-below k (suc n) = limit-below s (on_day l k) (suc n)

  pub side-lowered : (side : ℕ) → Lowered (side_of s l side)
  side-lowered side k g h inside =
      let up = (group_of s l side g).parent in
      elim (dec_lt up g) [
        | yes small ↦
            omega (
              arith,
              side-limit-below k side g h small,
              ap ((side_of s l side).limit k) (parent-lower (count_of l side) up g small),
            )
        | no n ↦ absurd (omega (arith, parent-root (count_of l side) up g (omega arith)))
      ]

  pub new-side-limit :
      (f : Form) → f.stored ≡ false → reading f s ≡ Ok l → (k side g : ℕ) → g < count_of l side →
      (side_of s l side).limit k g ≡ limit_in s (on_day l k) side g
  new-side-limit f new is k zero = own-limit s (on_day l k) (none-day s l k (new-below f s l is new)) 0
  new-side-limit f new is k (suc n) = own-limit s (on_day l k) (none-day s l k (new-below f s l is new)) (suc n)

--------------------------------------------------------------------------------
-- Two files

module _ {s : List ℕ} {k : Layout} {t : List ℕ} {l : Layout} (same : SameDay s k t l) where
  pub same_rows : k.rows ≡ l.rows
  same_rows = (same.sides 0).rows

  pub same-turned : SameDay t l s k
  same-turned =
      record {
        sides = λ side. turned (same.sides side);
        kinds = λ c h. sym (same.kinds c (omega (arith, same_rows)));
      }

  pub same-on-day : (i j : ℕ) → SameDay s (on_day k i) t (on_day l j)
  same-on-day i j =
      record {
        sides = λ side. subst₂ Renumbering (sym (side-day s k i side)) (sym (side-day t l j side)) (same.sides side);
        kinds = same.kinds;
      }

pub same-trans :
    {r : List ℕ} {j : Layout} {s : List ℕ} {k : Layout} {t : List ℕ} {l : Layout} → Sound r j → Sound s k → Sound t l →
    SameDay r j s k → SameDay s k t l → SameDay r j t l
same-trans sr ss st a b =
    record {
      sides = λ side.
          renumbered-trans (side-sound sr side) (side-sound ss side) (side-sound st side) (a.sides side) (b.sides side);
      kinds = λ c h. a.kinds c h ∙ b.kinds c (omega (arith, same_rows a));
    }
