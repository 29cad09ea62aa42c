-- Several counters, one oven (document 02, E13): the joined day as an instance.
--   which f n v            parts of f 0, f 1, .. f (n - 1) things stand one behind the other: in which of them thing v lies
--   of_part f n g v         what g says of thing v, by its part and its place there
--   cards_of, shops_of, rows_of   how many card groups, shop groups and rows the day of file k has
--   oven_node               the node of shop group 0, which has the oven limit and stands above all top shop groups
--   first_shop, all_groups   the node of the first shop group of the first file, and how many groups there are with the oven
--   card_up, shop_up         a node of file k, or its root, as a node of the joined day: the root over its shop groups is the oven
--   joined_parent           the node above each group
--   joined_net              "the files' groups and rows follow in file order"
--   written_limit           the limits as the files have them, with the oven's
--   joined                 the joined day: "limits above their parent's are lowered as in E4"
-- `m k` is the day of file k, of n files.
use Rattle.std.specs.Prelude.{ℕ, zero, suc, ◌+◌, ◌-◌, ltb, eqb}
use Rattle.theory.specs.Sum.{pick, sum}
use Rattle.theory.specs.Lowered.{lowered}
use Rattle.theory.specs.Network.{Network, Instance}

unfoldable pub which : (ℕ → ℕ) → ℕ → ℕ → ℕ
which f zero v = 0
which f (suc n) v = pick (ltb v (sum n f)) (which f n v) n

abbrev pub of_part : {A : Type 0} → (ℕ → ℕ) → ℕ → (ℕ → ℕ → A) → ℕ → A
of_part f n g v = g (which f n v) (v - sum (which f n v) f)

module _ (n : ℕ) (m : ℕ → Instance) where
  abbrev pub cards_of : ℕ → ℕ
  cards_of k = (m k).net.cards

  abbrev pub shops_of : ℕ → ℕ
  shops_of k = (m k).net.groups - (m k).net.cards

  abbrev pub rows_of : ℕ → ℕ
  rows_of k = (m k).net.rows

  abbrev pub oven_node : ℕ
  oven_node = sum n cards_of

  abbrev pub first_shop : ℕ
  first_shop = oven_node + 1

  abbrev pub all_groups : ℕ
  all_groups = first_shop + sum n shops_of

  abbrev pub card_up : ℕ → ℕ → ℕ
  card_up k u = pick (ltb u (m k).net.groups) (sum k cards_of + u) all_groups

  abbrev pub shop_up : ℕ → ℕ → ℕ
  shop_up k u = pick (ltb u (m k).net.groups) (first_shop + sum k shops_of + (u - cards_of k)) oven_node

  unfoldable pub joined_parent : ℕ → ℕ
  joined_parent v =
      pick (ltb v oven_node)
      (of_part cards_of n (λ k g. card_up k ((m k).net.parent g)) v)
      (pick (eqb v oven_node)
      (all_groups + 1)
      (of_part shops_of n (λ k h. shop_up k ((m k).net.parent (cards_of k + h))) (v - first_shop)))

  abbrev pub joined_net : Network
  joined_net = record {
    cards = oven_node;
    groups = all_groups;
    rows = sum n rows_of;
    parent = joined_parent;
    card = of_part rows_of n (λ k c. card_up k ((m k).net.card c));
    shop = of_part rows_of n (λ k c. shop_up k ((m k).net.shop c));
  }

  unfoldable pub written_limit : ℕ → ℕ → ℕ
  written_limit oven v =
      pick (ltb v oven_node)
      (of_part cards_of n (λ k g. (m k).limit g) v)
      (pick (eqb v oven_node) oven (of_part shops_of n (λ k h. (m k).limit (cards_of k + h)) (v - first_shop)))

  abbrev pub joined : ℕ → Instance
  joined oven = record {
    net = joined_net;
    limit = lowered all_groups joined_parent (written_limit oven);
    kind = of_part rows_of n (λ k c. (m k).kind c);
  }
