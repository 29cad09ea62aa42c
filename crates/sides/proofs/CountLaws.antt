-- Laws of the counts of a side.
--   moved                      the counts after one cell has grown
--   zero-cell zeros            a table of zeros, and the counts at the start
--   Counting                   after c rows each group counts the selected ones of them that hang at it
--   counting-start counting-small counting-step    at the start, and at the next row
--   counted-begun              the selected rows of a file, counted where they hang
--   passed_on                  what came to one group is passed on
--   Rising                     after the groups from g on have passed on what came to them
--   rising-start rising_step rising-end    at the start, at the next group, and with all groups
--   rising-passes              the next group can pass on what came to it
--   placed                     the selected rows of a file have risen
use mathlib.Core.Path.{◌≡◌, refl, sym, ap, ◌∙◌, subst}
use mathlib.Core.List.{List}
use mathlib.Core.Bool.{Bool, true, ◌&&◌}
use mathlib.Core.Logic.{◌⊎◌, inl, inr}
use Prim.Native.Nat.{ℕ, suc, ◌+◌, ◌*◌, min, ◌≤◌, ◌<◌}
use native.Mathlib.Decide.{ℕ_discrete, dec_lt}
use native.Mathlib.Omega.{arith}
use lib.ListN.{length, set, length-set, replicate, length-replicate, get_or-replicate, get_or-eq_default}
use lib.Dec.{leb}
use lib.Seq.{get_or-set_same, get_or-set_other}
use Rattle.theory.specs.Bounds.{max_groups, max_rows}
use Rattle.theory.specs.Sum.{same}
use Rattle.theory.specs.Incidence.{Selection}
use Rattle.theory.specs.Matroid.{row}
use Rattle.theory.specs.Rise.{own, Risen}
use Rattle.theory.proofs.SumLaws.{same_self, same-ne}
use Rattle.theory.proofs.LandLaws.{own-start, own-next, own-small}
use Rattle.theory.proofs.RiseLaws.{risen-start, risen-step, risen-small, risen-rank, risen-fits, risen-over}
use Rattle.claimfile.specs.Day.{count_of}
use Rattle.claimfile.specs.Sound.{Sound}
use Rattle.claimfile.specs.declared.Layout.{Layout}
use Rattle.claimfile.proofs.DayLaws.{side-most}
use Rattle.sides.specs.declared.Found.{Found}
use Rattle.sides.specs.Ready.{Ready}
use Rattle.sides.specs.Side.{parent_in, limit_in, hangs, Zero, Counted, Held, Passes, PassedOn, Named, Begun, Rose, Placed}
use Rattle.sides.proofs.ParentLaws.{side-rooted}
use Rattle.sides.proofs.SideLaws.{side-node}

-- x more in cell g
moved : (k : List ℕ) (g x h : ℕ) → g < length k → row (set k g (row k g + x)) h ≡ row k h + x * same g h
moved k g x h l =
    elim (ℕ_discrete g h) [
      | yes e ↦ rw (← e, get_or-set_same k g (row k g + x) 0 l, same_self) (omega arith)
      | no e ↦ rw (get_or-set_other k g h (row k g + x) 0 (λ i. e (sym i)), same-ne g h e) (omega arith)
    ]

-- every cell of a table of zeros is 0, and so is what stands for one past its end
pub zero-cell : (n i : ℕ) → row (replicate n 0) i ≡ 0
zero-cell n i =
    elim (dec_lt i n) [
      | yes l ↦ get_or-replicate {A = ℕ} n i 0 0 l
      | no l ↦ get_or-eq_default {A = ℕ} (replicate n 0) 0 (omega (arith, length-replicate {A = ℕ} n 0))
    ]

-- the counts at the start
pub zeros : (n : ℕ) → max_groups < n → Zero (replicate n 0)
zeros n h = record { long = omega (arith, length-replicate {A = ℕ} n 0); zero = zero-cell n }

--------------------------------------------------------------------------------
-- The rows where they hang

module _ (s sel : List ℕ) (l : Layout) (side : ℕ) where
  pub record Counting (k : List ℕ) (c : ℕ) : Type 0 where
    pub long : max_groups < length k
    pub upto : c ≤ l.rows
    pub counts : (h : ℕ) → row k h ≡ own c (hangs s l side) (row sel) h

  module _ (k : List ℕ) where
    pub counting-start : Zero k → Counting k 0
    counting-start z =
        record {
          long = z.long;
          upto = omega arith;
          counts = λ h. z.zero h ∙ sym (own-start (hangs s l side) (row sel) h);
        }

    module _ (bits : Selection l.rows (row sel)) (c : ℕ) (m : c < l.rows) (w : Counting k c) where
      -- a count is at most the number of rows before
      pub counting-small : (h : ℕ) → row k h ≤ c
      counting-small h =
          omega (arith, w.counts h, own-small c (hangs s l side) (row sel) (λ i n. bits i (omega arith)) h)

      -- x is the byte of row c, g where it hangs
      pub counting-step :
          (g x : ℕ) → g ≡ hangs s l side c → x ≡ row sel c → g ≤ max_groups → Counting (set k g (row k g + x)) (c + 1)
      counting-step g x e f inside =
          record {
            long = simp length-set w.long;
            upto = omega arith;
            counts = λ h.
                moved k g x h (omega (arith, w.long))
                ∙ ap (λ y. row k h + y * same g h) f
                ∙ ap (λ y. row k h + row sel c * same y h) e
                ∙ omega (arith, w.counts h, own-next c (hangs s l side) (row sel) h);
          }

    module _ (ready : Ready s sel l) (w : Counted s sel l side k) where
      counted-named : Named s l side (row sel) k
      counted-named = record { bits = ready.bits; counts = w.counts }

      counted-held : Held s l side k
      counted-held =
          record { sound = ready.sound; long = omega (arith, w.long, side-most s l ready.sound side) }

      pub counted-begun : Begun s l side k
      counted-begun = record { held = counted-held; chosen = row sel; named = counted-named }

      -- the selected rows have risen
      pub placed : (next : List ℕ) (f : Found) → length next ≡ length k → Rose s l side k next f → Placed s sel l side next f
      placed next f e rose =
          record {
            lifted = rose (row sel) counted-named;
            held = record { sound = ready.sound; long = omega (arith, counted-held.long) };
          }

--------------------------------------------------------------------------------
-- What came to one group is passed on

-- u is the cell where it goes
module _
    (s : List ℕ) (l : Layout) (side : ℕ) (k : List ℕ) (g : ℕ) (w : Passes s l side k g) (u : ℕ) (is : u ≡ parent_in s l side g)
  where
    passing-inside : u < length k
    passing-inside =
        elim (side-rooted s l side g w.inside) [
          | inl d ↦ omega (arith, w.inside, w.held.long)
          | inr d ↦ omega (arith, w.held.long)
        ]

    pub passed_on :
        (x limit : ℕ) (r : Bool) → limit ≡ limit_in s l side g → x ≡ min (row k g) limit → r ≡ leb (row k g) limit →
        PassedOn s l side k (set k u (row k u + x)) g r
    passed_on x limit r e f t =
        record {
          moves = λ h.
              moved k u x h passing-inside
              ∙ ap (λ y. row k h + y * same u h) (f ∙ ap (λ y. min (row k g) y) e)
              ∙ ap (λ y. row k h + min (row k g) (limit_in s l side g) * same y h) is;
          all = t ∙ ap (leb (row k g)) e;
        }

--------------------------------------------------------------------------------
-- The rows rise

module _ (s : List ℕ) (l : Layout) (side : ℕ) where
  -- the rows X have come from their own groups through those from g on
  abbrev RisenTo : (ℕ → ℕ) → ℕ → List ℕ → Bool → Type 0
  RisenTo X g k all = Risen l.rows (count_of l side) (parent_in s l side) (hangs s l side) (limit_in s l side) X g (row k) all

  -- whatever rows the counts k₀ were
  abbrev pub Rising : List ℕ → List ℕ → ℕ → Bool → Type 0
  Rising k₀ k g all = (X : ℕ → ℕ) → Named s l side X k₀ → RisenTo X g k all

module _ (s : List ℕ) (l : Layout) (side : ℕ) (k₀ : List ℕ) where
  pub rising-start : Sound s l → (g : ℕ) → g ≡ count_of l side → Rising s l side k₀ k₀ g true
  rising-start sound g e X n =
      rw e
      (risen-start l.rows (count_of l side) (parent_in s l side) (hangs s l side) (limit_in s l side) X
      (side-rooted s l side) (side-node s l sound side) (row k₀) (λ v m. n.counts v))

  module _ (k : List ℕ) (g : ℕ) (all : Bool) (w : Rising s l side k₀ k g all) where
    -- the counts of rows that rise are small
    rising-small : Begun s l side k₀ → (v : ℕ) → (v < g) ⊎ (v ≡ count_of l side) → row k v ≤ max_rows
    rising-small b v wait =
        omega (
          arith,
          b.held.sound.rows_most,
          risen-small l.rows (count_of l side) (parent_in s l side) (hangs s l side) (limit_in s l side) b.chosen
              (side-rooted s l side) b.named.bits g (row k) all (w b.chosen b.named) v wait,
        )

    module _ (h : ℕ) (next : g ≡ suc h) (inside : h < count_of l side) where
      pub rising-passes : Begun s l side k₀ → length k ≡ length k₀ → Passes s l side k h
      rising-passes b same_length =
          record {
            held = record { sound = b.held.sound; long = omega (arith, b.held.long) };
            inside = inside;
            small =
                omega (
                  arith,
                  rising-small b (parent_in s l side h)
                      (elim (side-rooted s l side h inside) [ inl d ↦ inl (omega arith) | inr d ↦ inr d ]),
                  rising-small b h (inl (omega arith)),
                );
          }

      pub rising_step :
          (j : List ℕ) (r rest : Bool) → PassedOn s l side k j h r → rest ≡ (all && r) → Rising s l side k₀ j h rest
      rising_step j r rest passed e X n =
          subst (λ b. RisenTo s l side X h j b)
          (sym (e ∙ ap (λ b. all && b) passed.all))
          (risen-step l.rows (count_of l side) (parent_in s l side) (hangs s l side) (limit_in s l side) X
          (side-rooted s l side) n.bits g (row k) all (w X n) h next inside (min (row k h) (limit_in s l side h)) refl
          (row j) (λ v m. passed.moves v))

  pub rising-end :
      (k : List ℕ) (g : ℕ) (all : Bool) (rank : ℕ) → g ≡ 0 → rank ≡ row k (count_of l side) → Rising s l side k₀ k g all →
      Rose s l side k₀ k (record { fits = all; rank = rank })
  rising-end k g all rank done e w X n =
      let t = subst (λ h. RisenTo s l side X h k all) done (w X n) in
      record {
        rank =
            rw e
            (risen-rank l.rows (count_of l side) (parent_in s l side) (hangs s l side) (limit_in s l side) X
            (side-rooted s l side) n.bits (row k) all t);
        fits =
            risen-fits l.rows (count_of l side) (parent_in s l side) (hangs s l side) (limit_in s l side) X
            (side-rooted s l side) n.bits (row k) all t;
        unfit =
            risen-over l.rows (count_of l side) (parent_in s l side) (hangs s l side) (limit_in s l side) X
            (side-rooted s l side) n.bits (row k) all t;
        counts = λ f h m. t.counts f h (omega arith) m;
      }
