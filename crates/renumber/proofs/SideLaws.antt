-- Laws of a side in the new numbers.
--   few-groups             it has no more groups than before
--   new-parent new-top     the new number of a parent
--   parent_of              the parent of a used group is a group, or the used group is at the top
--   canonical-side-sound   parents in the new numbers are smaller groups or the top, and rows name groups
--   canonical-side-renumbered  its groups correspond to the used groups of the side
--   canonical-side-used canonical-side-order   each of them is used, and they stand in order
--   Lowered d              on no day a group's limit is above its parent's
--   canonical-side-lowered so it is in the new numbers where it is so before
--   canonical-side-alike   sides whose used groups correspond are the same in the new numbers
use mathlib.Core.Path.{◌≡◌, refl, sym, ap, ◌∙◌, subst, subst₂}
use mathlib.Core.Logic.{◌⊎◌, inl, inr}
use Prim.Native.Nat.{ℕ, ◌≤◌, ◌<◌}
use native.Mathlib.Omega.{arith}
use borrow.Author.Tests.{lt-ltb, le-ltb}
use Rattle.theory.proofs.SumLaws.{sum_bound}
use Rattle.renumber.specs.Side.{Side, used, bit, used_groups, number, group, new_parent, canonical_side}
use Rattle.renumber.specs.Canonical.{Used, Top, Carries, Renumbering}
use Rattle.renumber.proofs.ChainLaws.{SoundSide}
use Rattle.renumber.proofs.KeyLaws.{bit-small}
use Rattle.renumber.proofs.OrderLaws.{used-inside, named-used, parent-used, Before}
use Rattle.renumber.proofs.OrderLaws.{number_small, number-before, number-parent, group-used, number-group, group-number}
use Rattle.renumber.proofs.MapLaws.{carry-used, AlikeSides, before-kept, groups-kept, number-kept, group-kept}

module _ (d : Side) where
  pub few-groups : used_groups d ≤ d.groups
  few-groups = omega (arith, sum_bound d.groups 1 {f = λ g. bit (used d g)} (λ g l. bit-small (used d g)))

  new-parent : (p : ℕ) → p < d.groups → new_parent d p ≡ number d p
  new-parent p h = rw (lt-ltb _ _ h)

  new-top : (p : ℕ) → p ≡ d.groups → new_parent d p ≡ used_groups d
  new-top p e =
      let h : d.groups ≤ p = omega arith in
      rw (le-ltb _ _ h)

abbrev pub Lowered : Side → Type 0
Lowered d = (k g : ℕ) → g < d.groups → d.parent g < d.groups → d.limit k g ≤ d.limit k (d.parent g)

module _ {d : Side} (sound : SoundSide d) where
  parent_of : (g : ℕ) → Used d g → (d.parent g < d.groups) ⊎ Top d g
  parent_of g u =
      elim (sound.rooted g (used-inside sound g u)) [
        | inl h ↦ inl (omega (arith, used-inside sound g u))
        | inr e ↦ inr e
      ]

  pub canonical-side-sound : SoundSide (canonical_side d)
  canonical-side-sound =
      record { rooted = smaller; named = λ r l. number_small sound (d.names r) (named-used sound r l) }
    where
      smaller :
          (i : ℕ) → i < used_groups d → ((canonical_side d).parent i < i) ⊎ ((canonical_side d).parent i ≡ used_groups d)
      smaller i l =
          let g = group d i in
          let u = group-used sound i l in
          elim (parent_of g u) [
            | inl h ↦ inl (omega (arith, new-parent d (d.parent g) h, number-group sound i l, number-parent sound g u h))
            | inr e ↦ inr (new-top d (d.parent g) e)
          ]

  to-canonical : Carries d (canonical_side d) (number d)
  to-canonical =
      record {
        used = carry-used sound canonical-side-sound (number d) (number_small sound) parents (λ r l. refl) refl;
        limits = λ k g day u. ap (d.limit k) (group-number sound g u);
        tops = λ g u t. at g u ∙ new-top d (d.parent g) t;
        parents = parents;
        names = λ r l. refl;
      }
    where
      at : (g : ℕ) → Used d g → (canonical_side d).parent (number d g) ≡ new_parent d (d.parent g)
      at g u = ap (λ x. new_parent d (d.parent x)) (group-number sound g u)

      parents :
          (g : ℕ) → Used d g → d.parent g < d.groups → (canonical_side d).parent (number d g) ≡ number d (d.parent g)
      parents g u h = at g u ∙ new-parent d (d.parent g) h

  from-canonical : Carries (canonical_side d) d (group d)
  from-canonical =
      record {
        used = at;
        limits = λ k i day u. refl;
        tops = λ i u t.
            let p = d.parent (group d i) in
            elim (parent_of (group d i) (at i u)) [
              | inl h ↦
                  absurd (omega (arith, t, new-parent d p h, number_small sound p (parent-used sound (group d i) (at i u) h)))
              | inr e ↦ e
            ];
        parents = λ i u h.
            let p = d.parent (group d i) in
            elim (parent_of (group d i) (at i u)) [
              | inl k ↦
                  sym (ap (group d) (new-parent d p k) ∙ group-number sound p (parent-used sound (group d i) (at i u) k))
              | inr e ↦ absurd (omega (arith, h, new-top d p e))
            ];
        names = λ r l. sym (group-number sound (d.names r) (named-used sound r l));
      }
    where
      at : (i : ℕ) → Used (canonical_side d) i → Used d (group d i)
      at i u = group-used sound i (used-inside canonical-side-sound i u)

  pub canonical-side-renumbered : Renumbering d (canonical_side d)
  canonical-side-renumbered =
      record {
        rows = refl;
        to = number d;
        from = group d;
        there = to-canonical;
        home = from-canonical;
        back = group-number sound;
        forth = λ i u. number-group sound i (used-inside canonical-side-sound i u);
      }

  -- "Groups with no claim in them or beneath them are dropped."
  pub canonical-side-used : (i : ℕ) → i < used_groups d → Used (canonical_side d) i
  canonical-side-used i l =
      subst (Used (canonical_side d)) (number-group sound i l) (to-canonical.used (group d i) (group-used sound i l))

  -- "The others are numbered by the lowest row that counts in them, a parent before its child where these are equal."
  pub canonical-side-order : (i j : ℕ) → i < j → j < used_groups d → Before (canonical_side d) i j
  unfolding canonical-side-renumbered
  canonical-side-order i j l h =
      let k : i < used_groups d = omega arith in
      let ui = group-used sound i k in
      let uj = group-used sound j h in
      let ei = number-group sound i k in
      let ej = number-group sound j h in
      subst₂ (Before (canonical_side d)) ei ej
      (before-kept sound canonical-side-sound canonical-side-renumbered (group d i) (group d j) ui uj
      (number-before sound (group d i) (group d j) ui uj (omega arith)))

  pub canonical-side-lowered : Lowered d → Lowered (canonical_side d)
  canonical-side-lowered low k i l h =
      let g = group d i in
      let u = group-used sound i l in
      elim (parent_of g u) [
        | inl m ↦
            let back = group-number sound (d.parent g) (parent-used sound g u m) in
            omega (
              arith,
              low k g (used-inside sound g u) m,
              ap (λ x. d.limit k (group d x)) (new-parent d (d.parent g) m) ∙ ap (d.limit k) back,
            )
        | inr e ↦ absurd (omega (arith, new-top d (d.parent g) e))
      ]

module _ {d e : Side} (sd : SoundSide d) (se : SoundSide e) (n : Renumbering d e) where
  pub canonical-side-alike : AlikeSides (canonical_side d) (canonical_side e)
  canonical-side-alike =
      record {
        groups = groups-kept sd se n;
        rows = n.rows;
        parent = parent;
        limit = λ k i day l.
            sym (ap (e.limit k) (group-kept sd se n i l) ∙ n.there.limits k (group d i) (omega arith) (group-used sd i l));
        names = λ r l. sym (ap (number e) (n.there.names r l) ∙ number-kept sd se n (d.names r) (named-used sd r l));
      }
    where
      parent : (i : ℕ) → i < used_groups d → (canonical_side d).parent i ≡ (canonical_side e).parent i
      parent i l =
          let g = group d i in
          let p = d.parent g in
          let u = group-used sd i l in
          let at = ap (λ x. new_parent e (e.parent x)) (group-kept sd se n i l) in
          elim (parent_of sd g u) [
            | inl h ↦
                let v = parent-used sd g u h in
                new-parent d p h
                ∙ sym (number-kept sd se n p v)
                ∙ sym (new-parent e (n.to p) (used-inside se (n.to p) (n.there.used p v)))
                ∙ ap (new_parent e) (sym (n.there.parents g u h))
                ∙ sym at
            | inr t ↦
                new-top d p t
                ∙ groups-kept sd se n
                ∙ sym (new-top e (e.parent (n.to g)) (n.there.tops g u t))
                ∙ sym at
          ]
