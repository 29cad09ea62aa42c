-- Laws of the first rows of a network, of its two sides, and of what prices cost there. They are the laws of prices and choices of
-- theory (LevelLaws), taken of the network with its first N rows alone, which is formed where the whole network is.
--   up_to-formed            it is formed
--   side-along card-side shop-side row-sides   a node and its parent are of one side, and a row hangs at a node of each side
--   count-is               how many rows of a choice count in a group, by the chains of their nodes
--   rise                   prices rise alike whatever the number of rows
--   choice-fits under meets level      a choice fits; no choice weighs more than the prices cost; one that weighs as much is level with
--                          them, and one that is level weighs as much
--   worth paid             what the rows of a choice pay, with what is left of the weights, is at least their weight, and is at most the bill
use mathlib.Core.Path.{◌≡◌, refl, sym, ◌∙◌}
use mathlib.Core.Logic.{◌⊎◌, inl, inr, ◌≢◌}
use Prim.Native.Nat.{ℕ, ◌+◌, ◌*◌, ◌-◌, ◌≤◌, ◌<◌}
use native.Mathlib.Decide.{ℕ_discrete, dec_lt}
use native.Mathlib.Omega.{arith}
use borrow.Author.Tests.{lt-ltb, le-ltb, eq-eqb, ne_eqb}
use Rattle.theory.specs.Sum.{sum}
use Rattle.theory.specs.Forest.{chain}
use Rattle.theory.specs.Incidence.{load}
use Rattle.theory.specs.Network.{Network, on_side, on_both, Choice}
use Rattle.theory.specs.Formed.{CardNode, ShopNode, Formed}
use Rattle.theory.specs.Level.{mark, rest, count, Rising, Level}
use Rattle.theory.proofs.SumLaws.{sum-cong, sum-zero, sum-le, sum-add}
use Rattle.theory.proofs.NetworkLaws.{node-up}
use Rattle.theory.proofs.LevelLaws as level-laws
use Rattle.duality.specs.Prices.{up_to, side_of, bill, left, cost}

pub up_to-formed : (net : Network) → Formed net → (N : ℕ) → N ≤ net.rows → Formed (up_to net N)
up_to-formed net f N h = record {
  sides = f.sides;
  card_parent = f.card_parent;
  shop_parent = f.shop_parent;
  card_node = λ c l. f.card_node c (omega arith);
  shop_node = λ c l. f.shop_node c (omega arith);
}

module _ (net : Network) (f : Formed net) where
  side-card : (u : ℕ) → CardNode net u → side_of net u ≡ 0
  unfolding side_of
  side-card u (inl h) = rw (lt-ltb _ _ h)
  side-card u (inr e) =
      let large : net.cards ≤ u = omega (arith, f.sides) in
      rw (le-ltb _ _ large, eq-eqb _ _ e)

  side-shop : (u : ℕ) → ShopNode net u → side_of net u ≡ 1
  unfolding side_of
  side-shop u (inl h) = rw (le-ltb _ _ h.0, ne_eqb u net.groups (λ e. omega (arith, h.1)))
  side-shop u (inr e) =
      let large : net.cards ≤ u = omega (arith, f.sides) in
      rw (le-ltb _ _ large, ne_eqb u net.groups (λ p. omega arith))

  -- a node and its parent are of one side, and a row hangs at one node of each
  pub side-along : (v : ℕ) → v < net.groups → side_of net (net.parent v) ≡ side_of net v
  side-along v l =
      elim (dec_lt v net.cards) [
        | yes h ↦ side-card (net.parent v) (node-up net f 0 v l (inl h)) ∙ sym (side-card v (inl h))
        | no h ↦
            let large : net.cards ≤ v = omega arith in
            side-shop (net.parent v) (node-up net f 1 v l (inl (large, l))) ∙ sym (side-shop v (inl (large, l)))
      ]

  pub card-side : (c : ℕ) → c < net.rows → side_of net (net.card c) ≡ 0
  card-side c l = side-card (net.card c) (f.card_node c l)

  pub shop-side : (c : ℕ) → c < net.rows → side_of net (net.shop c) ≡ 1
  shop-side c l = side-shop (net.shop c) (f.shop_node c l)

  -- of the two nodes of a row one is of side t
  pub row-sides :
      (t : ℕ) → t ≤ 1 → (c : ℕ) → c < net.rows →
      ((side_of net (net.card c) ≡ t) × (side_of net (net.shop c) ≢ t))
      ⊎ ((side_of net (net.card c) ≢ t) × (side_of net (net.shop c) ≡ t))
  row-sides t s c l =
      elim (ℕ_discrete t 0) [
        | yes e ↦ inl (card-side c l ∙ sym e, λ k. omega (arith, shop-side c l))
        | no e ↦ inr (λ k. omega (arith, card-side c l), omega (arith, shop-side c l))
      ]

pub count-is :
    (net : Network) (N : ℕ) (X : ℕ → ℕ) (v : ℕ) →
    count (up_to net N) X v
    ≡ sum N (λ c. X c * (chain net.groups net.parent (net.card c) v + chain net.groups net.parent (net.shop c) v))
unfolding load on_both on_side
count-is net N X v = refl

-- prices rise alike whatever the number of rows
pub rise : (net : Network) (M N : ℕ) (p : ℕ → ℕ) → Rising (up_to net M) p → Rising (up_to net N) p
rise net M N p r = record { up = r.up; base = r.base }

module _ (net : Network) (formed : Formed net) (N : ℕ) (h : N ≤ net.rows) (limit : ℕ → ℕ) where
  pub choice-fits : (X : ℕ → ℕ) → Choice (up_to net N) limit X → (v : ℕ) → v < net.groups → count (up_to net N) X v ≤ limit v
  choice-fits X ch = level-laws.choice-fits (up_to net N) (up_to-formed net formed N h) limit X ch

  module _ (w p X : ℕ → ℕ) where
    pub under : Rising net p → Choice (up_to net N) limit X → sum N (λ c. X c * w c) ≤ cost net N limit w p
    unfolding bill left mark rest
    under r ch =
        level-laws.under (up_to net N) (up_to-formed net formed N h) limit w p X (rise net net.rows N p r) ch

    pub meets :
        Rising net p → Choice (up_to net N) limit X → cost net N limit w p ≤ sum N (λ c. X c * w c) →
        Level (up_to net N) limit w p 0 X
    unfolding bill left mark rest
    meets r ch e =
        level-laws.meets (up_to net N) (up_to-formed net formed N h) limit w p X (rise net net.rows N p r) ch e

    pub level : Level (up_to net N) limit w p 0 X → sum N (λ c. X c * w c) ≡ cost net N limit w p
    unfolding bill left mark rest
    level k = level-laws.level-cost (up_to net N) (up_to-formed net formed N h) limit w p X k

    covered :
        Choice (up_to net N) limit X → (c : ℕ) → c < N →
        X c * w c ≤ (w c - (p (net.card c) + p (net.shop c))) + X c * (p (net.card c) + p (net.shop c))
    covered ch c l =
        elim (ℕ_discrete (X c) 0) [
          | yes e ↦ rw e (omega arith)
          | no e ↦
              let d : X c ≡ 1 = omega (arith, ch.bits c l) in
              rw d (omega arith)
        ]

    pub worth :
        Choice (up_to net N) limit X →
        sum N (λ c. X c * w c) ≤ left net N w p + sum N (λ c. X c * (p (net.card c) + p (net.shop c)))
    unfolding left
    worth ch =
        omega (
          arith,
          sum-le N (covered ch),
          sum-add N (λ c. w c - (p (net.card c) + p (net.shop c))) (λ c. X c * (p (net.card c) + p (net.shop c))),
        )

  pub paid :
      (p X : ℕ → ℕ) → Rising net p → Choice (up_to net N) limit X →
      sum N (λ c. X c * (p (net.card c) + p (net.shop c))) ≤ bill net limit p
  unfolding left
  paid p X r ch =
      omega (
        arith,
        under (λ c. p (net.card c) + p (net.shop c)) p X r ch,
        sum-cong N {f = λ c. (p (net.card c) + p (net.shop c)) - (p (net.card c) + p (net.shop c))} {g = λ c. 0}
            (λ c l. omega arith),
        sum-zero N,
      )
