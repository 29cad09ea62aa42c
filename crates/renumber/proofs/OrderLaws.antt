-- Laws of the order of a side's groups and of their new numbers. Of two used groups with the same lowest row one is above the
-- other, and what is above has the smaller old number. So used groups stand in order by lowest row and then by old number; these
-- two make one number, the key, and a new number is how many keys are lower.
--   lowest-hit lowest-least    the lowest row that counts in a group
--   used_low low-used      a used group has one
--   used-true true-used used-or-not    whether a group is used, as a test
--   used-inside            a used group is a group of the side
--   named-used up-used parent-used     the groups that rows name are used, and so are those above used groups
--   up-lowest              the lowest row of a group above is no higher
--   Before d h g           group h comes before g
--   before-true true-before    the same as a test
--   key d g                the lowest row and the old number of a group as one number
--   key_end d               the used groups are those with a key below this
--   low-key key-used used-key key_apart    so they are, and no two groups have the same key
--   key-before before-key  used groups come in the order of their keys
--   used-below number-below    how many groups are used, and the number of a used group, by the keys
--   number-less number_small   new numbers follow the order, and are below the count of used groups
--   number-before number-one   a lower number comes before, and no two used groups have the same
--   number-parent          a parent has a lower number than its child
--   group-used number-group group-number   each number below the count is that of one used group
use mathlib.Core.Path.{◌≡◌, refl, sym, ap, ◌∙◌}
use mathlib.Core.Logic.{◌⊎◌, inl, inr}
use mathlib.Core.Bool.{Bool, true, false, ◌&&◌, ◌||◌}
use Prim.Native.Nat.{ℕ, ◌*◌, ◌≤◌, ◌<◌}
use native.Mathlib.Nat.{le_refl, mul-le-mul_left}
use native.Mathlib.Decide.{ℕ_discrete, dec_lt}
use native.Mathlib.Omega.{arith}
use lib.Dec.{ltb, leb, eqb}
use borrow.Author.Tests.{lt-ltb, le-ltb, ltb-true, le-leb, leb-true, eq-eqb, eqb-true}
use Rattle.theory.proofs.SumLaws.{sum-cong}
use Rattle.theory.proofs.TestLaws.{either, and-true, true-and}
use Rattle.theory.proofs.ForestLaws.{up-inside, up-own, up-parent, up_split, up-trans, up-less, up-meet}
use Rattle.renumber.specs.Side.{Side, up, counts, first, lowest, used, bit, used_groups, above, before, number, group}
use Rattle.renumber.specs.Canonical.{Used}
use Rattle.renumber.proofs.ChainLaws.{SoundSide, side-down}
use Rattle.renumber.proofs.KeyLaws.{first-hit, first-least, pair, pair-lower, pair-less, less-pair, pair-apart}
use Rattle.renumber.proofs.KeyLaws.{bit-one, bit-zero, below, below-most, below_more, below_holds}

--------------------------------------------------------------------------------
-- Used groups

module _ (d : Side) where
  pub lowest-hit : (g : ℕ) → lowest d g < d.rows → 1 ≤ counts d (lowest d g) g
  unfolding lowest
  lowest-hit g l = leb-true 1 _ (first-hit d.rows (λ r. leb 1 (counts d r g)) l)

  pub lowest-least : (g r : ℕ) → r < d.rows → 1 ≤ counts d r g → lowest d g ≤ r
  unfolding lowest
  lowest-least g r l h = first-least d.rows (λ r. leb 1 (counts d r g)) r l (le-leb 1 _ h)

  pub used_low : (g : ℕ) → Used d g → lowest d g < d.rows
  used_low g u = omega (arith, lowest-least g u.0 u.1 u.2, u.1)

  pub low-used : (g : ℕ) → lowest d g < d.rows → Used d g
  low-used g l = (lowest d g, l, lowest-hit g l)

  pub used-true : (g : ℕ) → used d g ≡ true → Used d g
  unfolding used
  used-true g e = low-used g (ltb-true _ _ e)

  pub true-used : (g : ℕ) → Used d g → used d g ≡ true
  unfolding used
  true-used g u = lt-ltb _ _ (used_low g u)

  pub used-or-not : (g : ℕ) → Used d g ⊎ (¬ Used d g)
  used-or-not g =
      elim (dec_lt (lowest d g) d.rows) [
        | yes l ↦ inl (low-used g l)
        | no h ↦ inr (λ u. h (used_low g u))
      ]

module _ {d : Side} (sound : SoundSide d) where
  pub used-inside : (g : ℕ) → Used d g → g < d.groups
  used-inside g u = up-inside (side-down sound) (d.names u.0) g u.2

  pub named-used : (r : ℕ) → r < d.rows → Used d (d.names r)
  named-used r l = (r, l, up-own (side-down sound) (d.names r) (sound.named r l))

  pub up-used : (u g : ℕ) → Used d u → 1 ≤ up d u g → Used d g
  up-used u g l h = (l.0, l.1, up-trans (side-down sound) (d.names l.0) u g l.2 h)

  pub parent-used : (g : ℕ) → Used d g → d.parent g < d.groups → Used d (d.parent g)
  parent-used g u h = up-used g (d.parent g) u (up-parent (side-down sound) g (used-inside g u) h)

  -- the rows of a group count in the groups above it
  pub up-lowest : (u g : ℕ) → Used d u → 1 ≤ up d u g → lowest d g ≤ lowest d u
  up-lowest u g l h =
      lowest-least d g (lowest d u) (used_low d u l)
      (up-trans (side-down sound) (d.names (lowest d u)) u g (lowest-hit d u (used_low d u l)) h)

--------------------------------------------------------------------------------
-- The order

abbrev pub Before : Side → ℕ → ℕ → Type 0
Before d h g = (lowest d h < lowest d g) ⊎ ((lowest d h ≡ lowest d g) × (1 ≤ up d (d.parent g) h))

abbrev pub key : Side → ℕ → ℕ
key d g = pair d.groups (lowest d g) g

abbrev pub key_end : Side → ℕ
key_end d = d.groups * d.rows

module _ (d : Side) where
  pub before-true : (h g : ℕ) → before d h g ≡ true → Before d h g
  unfolding before
  before-true h g e = go (ltb (lowest d h) (lowest d g)) refl e
    where
      go :
          (b : Bool) → ltb (lowest d h) (lowest d g) ≡ b →
          (b || (eqb (lowest d h) (lowest d g) && above d h g)) ≡ true → Before d h g
      go true p e = inl (ltb-true _ _ p)
      go false p e =
          let q = and-true (eqb (lowest d h) (lowest d g)) (above d h g) e in
          inr (eqb-true _ _ q.0, leb-true 1 _ q.1)

  pub true-before : (h g : ℕ) → Before d h g → before d h g ≡ true
  unfolding before
  true-before h g (inl l) = rw (lt-ltb _ _ l)
  true-before h g (inr q) =
      let same : lowest d g ≤ lowest d h = omega (arith, q.0) in
      rw (le-ltb _ _ same, eq-eqb _ _ q.0, le-leb _ _ q.1)

  pub low-key : (g : ℕ) → g < d.groups → lowest d g < d.rows → key d g < key_end d
  low-key g inside l = omega (arith, pair-lower d.groups (lowest d g) d.rows g 0 inside l)

  past-key : (g : ℕ) → d.rows ≤ lowest d g → key_end d ≤ key d g
  past-key g h = omega (arith, mul-le-mul_left d.groups h)

  pub key-used : (g : ℕ) → key d g < key_end d → Used d g
  key-used g l =
      elim (dec_lt (lowest d g) d.rows) [
        | yes h ↦ low-used d g h
        | no h ↦ absurd (omega (arith, past-key g (omega arith)))
      ]

  pub key_apart : (g h : ℕ) → g < d.groups → h < d.groups → key d g ≡ key d h → g ≡ h
  key_apart g h = pair-apart d.groups (lowest d g) (lowest d h) g h

  pub used-below : used_groups d ≡ below d.groups (key d) (key_end d)
  unfolding used below
  used-below = sum-cong d.groups same
    where
      same : (g : ℕ) → g < d.groups → bit (ltb (lowest d g) d.rows) ≡ bit (ltb (key d g) (key_end d))
      same g inside =
          elim (dec_lt (lowest d g) d.rows) [
            | yes l ↦ bit-one (lowest d g) d.rows l ∙ sym (bit-one (key d g) (key_end d) (low-key g inside l))
            | no l ↦
                bit-zero (lowest d g) d.rows (omega arith)
                ∙ sym (bit-zero (key d g) (key_end d) (past-key g (omega arith)))
          ]

module _ {d : Side} (sound : SoundSide d) where
  pub key-before : (h g : ℕ) → Used d h → Used d g → key d h < key d g → Before d h g
  key-before h g uh ug l =
      elim (less-pair d.groups (lowest d h) (lowest d g) h g (used-inside sound g ug) l) [
        | inl m ↦ inl m
        | inr q ↦ inr (q.0, lower q.0 q.1)
      ]
    where
      -- both count the same lowest row, so the smaller is above
      lower : lowest d h ≡ lowest d g → h < g → 1 ≤ up d (d.parent g) h
      lower e m =
          elim (up_split (side-down sound) g (used-inside sound g ug) h
          (up-meet (side-down sound) (d.names (lowest d g)) g h (lowest-hit d g (used_low d g ug))
          (rw e at (lowest-hit d h (used_low d h uh))) (omega arith))) [
            | inl q ↦ absurd (omega arith)
            | inr q ↦ q
          ]

  pub before-key : (h g : ℕ) → h < d.groups → Used d g → Before d h g → key d h < key d g
  before-key h g inside u b =
      pair-less d.groups (lowest d h) (lowest d g) h g inside
      (elim b [
        | inl l ↦ inl l
        | inr q ↦ inr (q.0, up-less (side-down sound) g h (used-inside sound g u) q.1)
      ])

--------------------------------------------------------------------------------
-- The new numbers

module _ {d : Side} (sound : SoundSide d) where
  pub used-key : (g : ℕ) → Used d g → key d g < key_end d
  used-key g u = low-key d g (used-inside sound g u) (used_low d g u)

  pub number-below : (g : ℕ) → Used d g → number d g ≡ below d.groups (key d) (key d g)
  unfolding number below
  number-below g u = sum-cong d.groups same
    where
      same : (h : ℕ) → h < d.groups → bit (before d h g) ≡ bit (ltb (key d h) (key d g))
      same h inside =
          elim (dec_lt (key d h) (key d g)) [
            | yes l ↦
                let uh = key-used d h (omega (arith, used-key g u)) in
                ap bit (true-before d h g (key-before sound h g uh u l)) ∙ sym (bit-one (key d h) (key d g) l)
            | no l ↦
                elim (either (before d h g)) [
                  | inl e ↦ absurd (l (before-key sound h g inside u (before-true d h g e)))
                  | inr e ↦ ap bit e ∙ sym (bit-zero (key d h) (key d g) (omega arith))
                ]
          ]

  -- the key of g is below m, and not below itself
  number-lower : (g : ℕ) → Used d g → (m : ℕ) → key d g < m → number d g < below d.groups (key d) m
  number-lower g u m l =
      omega (
        arith,
        number-below g u,
        below_more d.groups (key d) (key d g) m (omega arith) g (used-inside sound g u) (le_refl (key d g)) l,
      )

  key-number : (h g : ℕ) → Used d h → Used d g → key d h < key d g → number d h < number d g
  key-number h g uh ug l = omega (arith, number-below g ug, number-lower h uh (key d g) l)

  pub number-less : (h g : ℕ) → Used d h → Used d g → Before d h g → number d h < number d g
  number-less h g uh ug b = key-number h g uh ug (before-key sound h g (used-inside sound h uh) ug b)

  pub number_small : (g : ℕ) → Used d g → number d g < used_groups d
  number_small g u = omega (arith, used-below d, number-lower g u (key_end d) (used-key g u))

  pub number-before : (h g : ℕ) → Used d h → Used d g → number d h < number d g → Before d h g
  number-before h g uh ug l =
      elim (dec_lt (key d h) (key d g)) [
        | yes m ↦ key-before sound h g uh ug m
        | no m ↦
            absurd
            (omega (
              arith,
              number-below h uh,
              number-below g ug,
              below-most d.groups (key d) (key d g) (key d h) (omega arith),
            ))
      ]

  pub number-one : (h g : ℕ) → Used d h → Used d g → number d h ≡ number d g → h ≡ g
  number-one h g uh ug e =
      elim (ℕ_discrete (key d h) (key d g)) [
        | yes q ↦ key_apart d h g (used-inside sound h uh) (used-inside sound g ug) q
        | no q ↦
            elim (dec_lt (key d h) (key d g)) [
              | yes l ↦ absurd (omega (arith, key-number h g uh ug l))
              | no l ↦ absurd (omega (arith, key-number g h ug uh (omega arith)))
            ]
      ]

  pub number-parent : (g : ℕ) → Used d g → d.parent g < d.groups → number d (d.parent g) < number d g
  number-parent g u h = number-less (d.parent g) g (parent-used sound g u h) u comes
    where
      comes : Before d (d.parent g) g
      comes =
          elim (dec_lt (lowest d (d.parent g)) (lowest d g)) [
            | yes l ↦ inl l
            | no l ↦
                inr (
                  omega (
                    arith,
                    up-lowest sound g (d.parent g) u (up-parent (side-down sound) g (used-inside sound g u) h),
                  ),
                  up-own (side-down sound) (d.parent g) h,
                )
          ]

  -- whether g is the used group with the new number i
  abbrev is_number : ℕ → ℕ → Bool
  is_number i g = used d g && eqb (number d g) i

  group-found : (i : ℕ) → i < used_groups d → Used d (group d i) × (number d (group d i) ≡ i)
  unfolding group
  group-found i l =
      let q = below_holds d.groups (key d) (key_apart d) (key_end d) i (omega (arith, used-below d)) in
      let u = key-used d q.0 q.2 in
      let hit = true-and (used d q.0) (eqb (number d q.0) i) (true-used d q.0 u)
      (eq-eqb _ _ (number-below q.0 u ∙ q.3)) in
      let least = first-least d.groups (is_number i) q.0 q.1 hit in
      read (first d.groups (is_number i)) (first-hit d.groups (is_number i) (omega (arith, least, q.1)))
    where
      read : (g : ℕ) → is_number i g ≡ true → Used d g × (number d g ≡ i)
      read g e =
          let h = and-true (used d g) (eqb (number d g) i) e in
          (used-true d g h.0, eqb-true (number d g) i h.1)

  pub group-used : (i : ℕ) → i < used_groups d → Used d (group d i)
  group-used i l = (group-found i l).0

  pub number-group : (i : ℕ) → i < used_groups d → number d (group d i) ≡ i
  number-group i l = (group-found i l).1

  pub group-number : (g : ℕ) → Used d g → group d (number d g) ≡ g
  group-number g u =
      let l = number_small g u in
      number-one (group d (number d g)) g (group-used (number d g) l) u (number-group (number d g) l)
