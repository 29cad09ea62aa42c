-- Prices over the first rows of a network, as proofs need them. A price is a dual variable (theory/specs/Level.antt).
--   up_to net N             the network net with its first N rows alone
--   side_of net u           the side of a node: 0 is card, 1 is shop
--   bill net limit p       what all places cost: each group's limit × mark, summed
--   left net N w p         what is left of the weights of the first N rows when their two nodes are paid
--   cost net N limit w p   both together: what the prices cost
--   Priced net N limit w   a choice of the first N rows, and prices that cost what it weighs
--   ext N x X              the selection X of the first N rows, with x for row N
--   without net limit N    the limits less the places that row N takes
--   blend side t f g       f at the nodes of side t, g at the others
--   hi side t d p q        p moved towards q: on side t raised to d below q, on the other side lowered to d above q, where that is nearer
--   lo side t d p q        q moved towards p by as much, so that lo and hi have the sum of p and q at each node
use Rattle.std.specs.Prelude.{◌≡◌, ℕ, ◌+◌, ◌*◌, ◌-◌, min, max, ltb, eqb}
use Rattle.std.proofs.Math.Decide.{ℕ_discrete, dec_lt}
use Rattle.theory.specs.Sum.{pick, sum}
use Rattle.theory.specs.Forest.{chain}
use Rattle.theory.specs.Network.{Network, Choice}
use Rattle.theory.specs.Level.{mark, Rising}

abbrev pub up_to : Network → ℕ → Network
up_to net N = record {
  cards = net.cards;
  groups = net.groups;
  rows = N;
  parent = net.parent;
  card = net.card;
  shop = net.shop;
}

unfoldable pub side_of : Network → ℕ → ℕ
side_of net u = pick (ltb u net.cards) 0 (pick (eqb u net.groups) 0 1)

unfoldable pub bill : Network → (ℕ → ℕ) → (ℕ → ℕ) → ℕ
bill net limit p = sum net.groups (λ v. limit v * mark net p v)

unfoldable pub left : Network → ℕ → (ℕ → ℕ) → (ℕ → ℕ) → ℕ
left net N w p = sum N (λ c. w c - (p (net.card c) + p (net.shop c)))

abbrev pub cost : Network → ℕ → (ℕ → ℕ) → (ℕ → ℕ) → (ℕ → ℕ) → ℕ
cost net N limit w p = bill net limit p + left net N w p

pub record Priced (net : Network) (N : ℕ) (limit w : ℕ → ℕ) : Type 0 where
  pub X : ℕ → ℕ
  pub p : ℕ → ℕ
  pub choice : Choice (up_to net N) limit X
  pub rising : Rising net p
  pub meet : cost net N limit w p ≡ sum N (λ c. X c * w c)

unfoldable pub ext : ℕ → ℕ → (ℕ → ℕ) → ℕ → ℕ
ext N x X c = elim (dec_lt c N) [ yes l ↦ X c | no l ↦ x ]

unfoldable pub without : Network → (ℕ → ℕ) → ℕ → ℕ → ℕ
without net limit N v =
    limit v - (chain net.groups net.parent (net.card N) v + chain net.groups net.parent (net.shop N) v)

unfoldable pub blend : (ℕ → ℕ) → ℕ → (ℕ → ℕ) → (ℕ → ℕ) → ℕ → ℕ
blend side t f g u = elim (ℕ_discrete (side u) t) [ yes e ↦ f u | no e ↦ g u ]

unfoldable pub hi : (ℕ → ℕ) → ℕ → ℕ → (ℕ → ℕ) → (ℕ → ℕ) → ℕ → ℕ
hi side t d p q = blend side t (λ u. max (q u - d) (p u)) (λ u. min (q u + d) (p u))

unfoldable pub lo : (ℕ → ℕ) → ℕ → ℕ → (ℕ → ℕ) → (ℕ → ℕ) → ℕ → ℕ
lo side t d p q = blend side t (λ u. min (q u) (p u + d)) (λ u. max (q u) (p u - d))
