-- Laws of two sides whose used groups correspond. Lowest rows stay and so does what is above a group, hence the order of the used
-- groups. The new numbers follow that order, there and back, so they stay too.
--   carry carry-row carry-used     a map that keeps parents and names keeps what is above, the rows that count, and used groups
--   carries-up             so does a map that carries
--   turned renumbered-trans    a renumbering the other way round, and one after another
--   AlikeSides c d         two sides that agree at every group, on every day, and at every row
--   alike-renumbered       their used groups correspond
--   lowest-kept before-kept    lowest rows and the order stay
--   groups-kept number-kept group-kept     so do the count of used groups, their new numbers, and the group with each number
use mathlib.Core.Path.{◌≡◌, refl, sym, ap, ◌∙◌}
use mathlib.Core.Logic.{inl, inr}
use Prim.Native.Nat.{ℕ, zero, suc, ◌≤◌, ◌<◌, zero-le}
use native.Mathlib.Decide.{dec_le}
use native.Mathlib.Omega.{arith}
use Rattle.claimfile.specs.File.{days}
use Rattle.theory.proofs.ForestLaws.{up_start, up-own, up-parent, up-climb, up-trans}
use Rattle.renumber.specs.Side.{Side, up, counts, lowest, used_groups, number, group}
use Rattle.renumber.specs.Canonical.{Used, Carries, Renumbering}
use Rattle.renumber.proofs.ChainLaws.{SoundSide, side-down}
use Rattle.renumber.proofs.OrderLaws.{lowest-hit, lowest-least, used_low, used-inside, named-used, parent-used, Before}
use Rattle.renumber.proofs.OrderLaws.{number-less, number_small, number-before, group-used, number-group, group-number}

module _ {d e : Side} (sd : SoundSide d) (se : SoundSide e) (to : ℕ → ℕ) where
  module _
      (inside : (g : ℕ) → Used d g → to g < e.groups)
      (parents : (g : ℕ) → Used d g → d.parent g < d.groups → e.parent (to g) ≡ to (d.parent g))
    where
      pub carry : (u g : ℕ) → Used d u → 1 ≤ up d u g → 1 ≤ up e (to u) (to g)
      carry u g live h =
          (up-climb (side-down sd) (λ v. Used d v × (1 ≤ up e (to u) (to v))) step u g h
          (live, up-own (side-down se) (to u) (inside u live))).1
        where
          step :
              (v : ℕ) → v < d.groups → d.parent v < v → Used d v × (1 ≤ up e (to u) (to v)) →
              Used d (d.parent v) × (1 ≤ up e (to u) (to (d.parent v)))
          step v l m p =
              let above : d.parent v < d.groups = omega arith in
              let next = parent-used sd v p.0 above in
              let is = parents v p.0 above in
              let way = up-parent (side-down se) (to v) (inside v p.0) (rw is (inside (d.parent v) next)) in
              (next, up-trans (side-down se) (to u) (to v) (to (d.parent v)) p.1 (rw is at way))

      module _ (names : (r : ℕ) → r < d.rows → e.names r ≡ to (d.names r)) where
        pub carry-row : (r g : ℕ) → r < d.rows → 1 ≤ counts d r g → 1 ≤ counts e r (to g)
        carry-row r g l h = rw (names r l) (carry (d.names r) g (named-used sd r l) h)

        pub carry-used : d.rows ≡ e.rows → (g : ℕ) → Used d g → Used e (to g)
        carry-used rows g u = (u.0, omega (arith, u.1), carry-row u.0 g u.1 u.2)

  module _ (c : Carries d e to) where
    carries-inside : (g : ℕ) → Used d g → to g < e.groups
    carries-inside g u = used-inside se (to g) (c.used g u)

    pub carries-up : (u g : ℕ) → Used d u → 1 ≤ up d u g → 1 ≤ up e (to u) (to g)
    carries-up = carry carries-inside c.parents

    carries-lowest : d.rows ≡ e.rows → (g : ℕ) → Used d g → lowest e (to g) ≤ lowest d g
    carries-lowest rows g u =
        let low = used_low d g u in
        lowest-least e (to g) (lowest d g) (omega arith)
        (carry-row carries-inside c.parents c.names (lowest d g) g low (lowest-hit d g low))

--------------------------------------------------------------------------------
-- Renumberings

carries-trans :
    {b d e : Side} → SoundSide b → SoundSide d → b.rows ≡ d.rows → {to on : ℕ → ℕ} → Carries b d to → Carries d e on →
    Carries b e (λ g. on (to g))
carries-trans {b} sb sd rows {to} {on} c w =
    record {
      used = λ g u. w.used (to g) (c.used g u);
      limits = λ k g day u. w.limits k (to g) day (c.used g u) ∙ c.limits k g day u;
      tops = λ g u t. w.tops (to g) (c.used g u) (c.tops g u t);
      parents = λ g u h.
          let is = c.parents g u h in
          let next = c.used (b.parent g) (parent-used sb g u h) in
          w.parents (to g) (c.used g u) (rw is (used-inside sd (to (b.parent g)) next)) ∙ ap on is;
      names = λ r l. w.names r (omega arith) ∙ ap on (c.names r l);
    }

abbrev pub turned : {d e : Side} → Renumbering d e → Renumbering e d
turned n =
    record {
      rows = sym n.rows;
      to = n.from;
      from = n.to;
      there = n.home;
      home = n.there;
      back = n.forth;
      forth = n.back;
    }

pub renumbered-trans :
    {b d e : Side} → SoundSide b → SoundSide d → SoundSide e → Renumbering b d → Renumbering d e → Renumbering b e
renumbered-trans sb sd se m n =
    record {
      rows = m.rows ∙ n.rows;
      to = λ g. n.to (m.to g);
      from = λ h. m.from (n.from h);
      there = carries-trans sb sd m.rows m.there n.there;
      home = carries-trans se sd (sym n.rows) n.home m.home;
      back = λ g u. ap m.from (n.back (m.to g) (m.there.used g u)) ∙ m.back g u;
      forth = λ h u. ap n.to (m.forth (n.from h) (n.home.used h u)) ∙ n.forth h u;
    }

pub record AlikeSides (c d : Side) : Type 0 where
  pub groups : c.groups ≡ d.groups
  pub rows : c.rows ≡ d.rows
  pub parent : (g : ℕ) → g < c.groups → c.parent g ≡ d.parent g
  pub limit : (k g : ℕ) → k < days → g < c.groups → c.limit k g ≡ d.limit k g
  pub names : (r : ℕ) → r < c.rows → c.names r ≡ d.names r

alike_turned : {c d : Side} → AlikeSides c d → AlikeSides d c
alike_turned a =
    record {
      groups = sym a.groups;
      rows = sym a.rows;
      parent = λ g l. sym (a.parent g (omega arith));
      limit = λ k g day l. sym (a.limit k g day (omega arith));
      names = λ r l. sym (a.names r (omega arith));
    }

alike-carries : {c d : Side} → SoundSide c → SoundSide d → AlikeSides c d → Carries c d (λ g. g)
alike-carries {c} {d} sc sd a =
    record {
      used = carry-used sc sd (λ g. g) (λ g u. omega (arith, used-inside sc g u)) parents names a.rows;
      limits = λ k g day u. sym (a.limit k g (omega arith) (used-inside sc g u));
      tops = λ g u t. omega (arith, a.parent g (used-inside sc g u));
      parents = parents;
      names = names;
    }
  where
    parents : (g : ℕ) → Used c g → c.parent g < c.groups → d.parent g ≡ c.parent g
    parents g u h = sym (a.parent g (used-inside sc g u))

    names : (r : ℕ) → r < c.rows → d.names r ≡ c.names r
    names r l = sym (a.names r l)

pub alike-renumbered : {c d : Side} → SoundSide c → SoundSide d → AlikeSides c d → Renumbering c d
alike-renumbered sc sd a =
    record {
      rows = a.rows;
      to = λ g. g;
      from = λ g. g;
      there = alike-carries sc sd a;
      home = alike-carries sd sc (alike_turned a);
      back = λ g u. refl;
      forth = λ h u. refl;
    }

--------------------------------------------------------------------------------
-- What stays

-- numbers that rise from place to place are no lower than their places
climbs : (n : ℕ) (f : ℕ → ℕ) → ((i j : ℕ) → i < j → j < n → f i < f j) → (i : ℕ) → i < n → i ≤ f i
climbs n f rises zero l = zero-le
climbs n f rises (suc i) l = omega (arith, climbs n f rises i (omega arith), rises i (suc i) (omega arith) l)

module _ {d e : Side} (sd : SoundSide d) (se : SoundSide e) (n : Renumbering d e) where
  pub lowest-kept : (g : ℕ) → Used d g → lowest e (n.to g) ≡ lowest d g
  lowest-kept g u =
      omega (
        arith,
        carries-lowest sd se n.to n.there n.rows g u,
        carries-lowest se sd n.from n.home (sym n.rows) (n.to g) (n.there.used g u),
        ap (lowest d) (n.back g u),
      )

  pub before-kept : (h g : ℕ) → Used d h → Used d g → Before d h g → Before e (n.to h) (n.to g)
  before-kept h g uh ug (inl l) = inl (omega (arith, lowest-kept h uh, lowest-kept g ug))
  before-kept h g uh ug (inr q) =
      let inside = up_start (side-down sd) (d.parent g) h q.1 in
      inr (
        omega (arith, q.0, lowest-kept h uh, lowest-kept g ug),
        rw (n.there.parents g ug inside)
            (carries-up sd se n.to n.there (d.parent g) h (parent-used sd g ug inside) q.1),
      )

  -- the new number there of the group with number i here
  abbrev over : ℕ → ℕ
  over i = number e (n.to (group d i))

  over-rises : (i j : ℕ) → i < j → j < used_groups d → over i < over j
  over-rises i j l h =
      let k : i < used_groups d = omega arith in
      let ui = group-used sd i k in
      let uj = group-used sd j h in
      let lower : number d (group d i) < number d (group d j) = omega (arith, number-group sd i k, number-group sd j h) in
      number-less se (n.to (group d i)) (n.to (group d j)) (n.there.used (group d i) ui) (n.there.used (group d j) uj)
      (before-kept (group d i) (group d j) ui uj (number-before sd (group d i) (group d j) ui uj lower))

  over-least : (i : ℕ) → i < used_groups d → i ≤ over i
  over-least = climbs (used_groups d) over over-rises

  number-least : (g : ℕ) → Used d g → number d g ≤ number e (n.to g)
  number-least g u =
      omega (
        arith,
        over-least (number d g) (number_small sd g u),
        ap (λ x. number e (n.to x)) (group-number sd g u),
      )

  groups-least : used_groups d ≤ used_groups e
  groups-least =
      elim (dec_le (used_groups d) (used_groups e)) [
        | yes l ↦ l
        | no l ↦
            let last = used_groups e in
            let more : last < used_groups d = omega arith in
            let u = n.there.used (group d last) (group-used sd last more) in
            absurd (omega (arith, over-least last more, number_small se (n.to (group d last)) u))
      ]

module _ {d e : Side} (sd : SoundSide d) (se : SoundSide e) (n : Renumbering d e) where
  pub groups-kept : used_groups d ≡ used_groups e
  groups-kept = omega (arith, groups-least sd se n, groups-least se sd (turned n))

  pub number-kept : (g : ℕ) → Used d g → number e (n.to g) ≡ number d g
  number-kept g u =
      omega (
        arith,
        number-least sd se n g u,
        number-least se sd (turned n) (n.to g) (n.there.used g u),
        ap (number d) (n.back g u),
      )

  pub group-kept : (i : ℕ) → i < used_groups d → group e i ≡ n.to (group d i)
  group-kept i l =
      let u = group-used sd i l in
      ap (group e) (sym (number-kept (group d i) u ∙ number-group sd i l))
      ∙ group-number se (n.to (group d i)) (n.there.used (group d i) u)
