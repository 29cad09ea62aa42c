-- Laws of where the groups of a file stand in the joined day. File k's groups are written with the first node of each side and the node over
-- its tops as a spot says; by these they are the joined day's.
--   card_at shop_at          the nodes of card group g and of shop group g of file k
--   card-up shop-up        the node above such a group
--   card-written shop-written  its limit as it is written
use mathlib.Core.Path.{◌≡◌, sym, ap, ◌∙◌}
use mathlib.Core.List.{List}
use Prim.Native.Nat.{ℕ, ◌+◌, ◌<◌}
use native.Mathlib.Decide.{dec_lt}
use native.Mathlib.Omega.{arith}
use Rattle.theory.specs.Sum.{sum}
use Rattle.theory.specs.Network.{Instance}
use Rattle.claimfile.specs.declared.Layout.{Layout}
use Rattle.claimfile.specs.Day as day
use Rattle.tables.specs.Tables.{node_above}
use Rattle.counters.specs.Joined.{cards_of, shops_of, oven_node, first_shop, all_groups, card_up, shop_up, joined_parent, written_limit}
use Rattle.counters.proofs.JoinLaws as join
use Rattle.members.specs.Accepted.{Members}
use Rattle.joinfile.specs.Files.{members}
use Rattle.joinfile.proofs.FileLaws.{above-group, above-top}
use Rattle.joinfile.proofs.DayLaws.{up-card, up-shop, written-card, written-shop}

module _ (n : ℕ) (m : ℕ → Instance) where
  abbrev pub card_at : ℕ → ℕ → ℕ
  card_at k g = sum k (cards_of n m) + g

  abbrev pub shop_at : ℕ → ℕ → ℕ
  shop_at k g = first_shop n m + sum k (shops_of n m) + g

module _ (n : ℕ) (s : ℕ → List ℕ) (l : ℕ → Layout) (oven today : ℕ) (all : Members n s l today) (k : ℕ) (file : k < n) where
  abbrev m : ℕ → Instance
  m = members s l

  pub card-up :
      (g : ℕ) → g < (l k).cards →
      node_above (s k) (l k) 0 (sum k (cards_of n m)) (all_groups n m) g ≡ joined_parent n m (card_at n m k g)
  card-up g h =
      elim (dec_lt p g) [
        | yes q ↦
            above-group g p (sum k (cards_of n m)) (all_groups n m) q
            ∙ sym
            (is
            ∙ ap (card_up n m k) (above-group g p 0 (day.groups_of (l k)) q)
            ∙ join.card-group n m k (0 + p) (omega arith)
            ∙ omega arith)
        | no q ↦
            above-top g p (sum k (cards_of n m)) (all_groups n m) (omega arith)
            ∙ sym
            (is
            ∙ ap (card_up n m k) (above-top g p 0 (day.groups_of (l k)) (omega arith))
            ∙ join.card-top n m k (day.groups_of (l k)) (omega arith))
      ]
    where
      p : ℕ
      p = (day.group_of (s k) (l k) 0 g).parent

      is : joined_parent n m (card_at n m k g) ≡ card_up n m k (day.above g (day.group_of (s k) (l k) 0 g).parent 0 (day.groups_of (l k)))
      is = join.parent-card n m k file g h ∙ ap (card_up n m k) (up-card (s k) (l k) g h)

  pub shop-up :
      (g : ℕ) → g < (l k).shops →
      node_above (s k) (l k) 1 (first_shop n m + sum k (shops_of n m)) (oven_node n m) g ≡ joined_parent n m (shop_at n m k g)
  shop-up g h =
      elim (dec_lt p g) [
        | yes q ↦
            above-group g p (first_shop n m + sum k (shops_of n m)) (oven_node n m) q
            ∙ sym
            (is
            ∙ ap (shop_up n m k) (above-group g p (l k).cards (day.groups_of (l k) + 1) q)
            ∙ join.shop-group n m k ((l k).cards + p) (omega arith)
            ∙ omega arith)
        | no q ↦
            above-top g p (first_shop n m + sum k (shops_of n m)) (oven_node n m) (omega arith)
            ∙ sym
            (is
            ∙ ap (shop_up n m k) (above-top g p (l k).cards (day.groups_of (l k) + 1) (omega arith))
            ∙ join.shop-top n m k (day.groups_of (l k) + 1) (omega arith))
      ]
    where
      p : ℕ
      p = (day.group_of (s k) (l k) 1 g).parent

      is :
          joined_parent n m (shop_at n m k g)
          ≡ shop_up n m k (day.above g (day.group_of (s k) (l k) 1 g).parent (l k).cards (day.groups_of (l k) + 1))
      is = join.parent-shop n m k file g (omega arith) ∙ ap (shop_up n m k) (up-shop (s k) (l k) g h)

  pub card-written : (g : ℕ) → g < (l k).cards → (day.group_of (s k) (l k) 0 g).limit ≡ written_limit n m oven (card_at n m k g)
  card-written g h =
      sym (join.limit-card n m k file g h oven ∙ all.new k file g (omega arith) ∙ written-card (s k) (l k) g h)

  pub shop-written : (g : ℕ) → g < (l k).shops → (day.group_of (s k) (l k) 1 g).limit ≡ written_limit n m oven (shop_at n m k g)
  shop-written g h =
      sym
      (join.limit-shop n m k file g (omega arith) oven
      ∙ all.new k file ((l k).cards + g) (omega arith)
      ∙ written-shop (s k) (l k) g h)
