-- The joined day, file by file. Each section of it is made of parts, one a file, so that what it says of a group or of a row is what the file
-- says of its own, moved by the groups of the files before it; and so it is well formed where each file is.
--   parent-card parent-oven parent-shop    the node above each group
--   limit-card limit-oven limit-shop       the limits as they are written
--   row-card row-shop row-kind             the rows
--   card-group card-top shop-group shop-top    where a group of a file stands, and what stands for its roots
--   joined-formed joined-down  the joined network is well formed, and its parents are a forest
use mathlib.Core.Path.{◌≡◌, refl, ap, ◌∙◌}
use mathlib.Core.Logic.{◌⊎◌, inl, inr}
use Prim.Native.Nat.{ℕ, ◌+◌, ◌-◌, ◌≤◌, ◌<◌}
use native.Mathlib.Decide.{ℕ_discrete}
use native.Mathlib.Omega.{arith}
use borrow.Author.Tests.{lt-ltb, le-ltb, eq-eqb, ne_eqb}
use Rattle.theory.specs.Sum.{sum}
use Rattle.theory.specs.Forest.{Down}
use Rattle.theory.specs.Network.{Instance}
use Rattle.theory.specs.Formed.{Formed, CardNode, ShopNode}
use Rattle.theory.proofs.NetworkLaws.{formed-down}
use Rattle.counters.specs.Joined.{cards_of, shops_of, rows_of, oven_node, first_shop, all_groups, card_up, shop_up}
use Rattle.counters.specs.Joined.{joined_parent, joined_net, written_limit, joined}
use Rattle.counters.proofs.PartLaws.{part_end, of_part-is, each_part}

module _ (n : ℕ) (m : ℕ → Instance) where
  --------------------------------------------------------------------------------
  -- File by file

  module _ (k : ℕ) (file : k < n) where
    module _ (g : ℕ) (group : g < cards_of n m k) where
      card-before : sum k (cards_of n m) + g < oven_node n m
      card-before = omega (arith, part_end (cards_of n m) n k file)

      pub parent-card : joined_parent n m (sum k (cards_of n m) + g) ≡ card_up n m k ((m k).net.parent g)
      unfolding joined_parent
      parent-card = rw (lt-ltb _ _ card-before) (of_part-is (cards_of n m) n (λ j u. card_up n m j ((m j).net.parent u)) k g file group)

      pub limit-card : (oven : ℕ) → written_limit n m oven (sum k (cards_of n m) + g) ≡ (m k).limit g
      unfolding written_limit
      limit-card oven = rw (lt-ltb _ _ card-before) (of_part-is (cards_of n m) n (λ j u. (m j).limit u) k g file group)

    module _ (h : ℕ) (group : h < shops_of n m k) where
      past : oven_node n m ≤ first_shop n m + sum k (shops_of n m) + h
      past = omega arith

      other : first_shop n m + sum k (shops_of n m) + h ≡ oven_node n m → ⊥
      other e = omega arith

      back : first_shop n m + sum k (shops_of n m) + h - first_shop n m ≡ sum k (shops_of n m) + h
      back = omega arith

      pub parent-shop :
          joined_parent n m (first_shop n m + sum k (shops_of n m) + h) ≡ shop_up n m k ((m k).net.parent (cards_of n m k + h))
      unfolding joined_parent
      parent-shop =
          rw (le-ltb _ _ past, ne_eqb _ _ other, back)
          (of_part-is (shops_of n m) n (λ j u. shop_up n m j ((m j).net.parent (cards_of n m j + u))) k h file group)

      pub limit-shop : (oven : ℕ) → written_limit n m oven (first_shop n m + sum k (shops_of n m) + h) ≡ (m k).limit (cards_of n m k + h)
      unfolding written_limit
      limit-shop oven =
          rw (le-ltb _ _ past, ne_eqb _ _ other, back)
          (of_part-is (shops_of n m) n (λ j u. (m j).limit (cards_of n m j + u)) k h file group)

    module _ (c : ℕ) (inside : c < rows_of n m k) where
      pub row-card : (joined_net n m).card (sum k (rows_of n m) + c) ≡ card_up n m k ((m k).net.card c)
      row-card = of_part-is (rows_of n m) n (λ j u. card_up n m j ((m j).net.card u)) k c file inside

      pub row-shop : (joined_net n m).shop (sum k (rows_of n m) + c) ≡ shop_up n m k ((m k).net.shop c)
      row-shop = of_part-is (rows_of n m) n (λ j u. shop_up n m j ((m j).net.shop u)) k c file inside

      pub row-kind : (oven : ℕ) → (joined n m oven).kind (sum k (rows_of n m) + c) ≡ (m k).kind c
      row-kind oven = of_part-is (rows_of n m) n (λ j u. (m j).kind u) k c file inside

  at-oven : oven_node n m ≤ oven_node n m
  at-oven = omega arith

  pub parent-oven : joined_parent n m (oven_node n m) ≡ all_groups n m + 1
  unfolding joined_parent
  parent-oven = rw (le-ltb _ _ at-oven, eq-eqb (oven_node n m) (oven_node n m) refl)

  pub limit-oven : (oven : ℕ) → written_limit n m oven (oven_node n m) ≡ oven
  unfolding written_limit
  limit-oven oven = rw (le-ltb _ _ at-oven, eq-eqb (oven_node n m) (oven_node n m) refl)

  pub card-group : (k u : ℕ) → u < (m k).net.groups → card_up n m k u ≡ sum k (cards_of n m) + u
  card-group k u h = rw (lt-ltb _ _ h)

  pub card-top : (k u : ℕ) → (m k).net.groups ≤ u → card_up n m k u ≡ all_groups n m
  card-top k u h = rw (le-ltb _ _ h)

  pub shop-group : (k u : ℕ) → u < (m k).net.groups → shop_up n m k u ≡ first_shop n m + sum k (shops_of n m) + (u - cards_of n m k)
  shop-group k u h = rw (lt-ltb _ _ h)

  pub shop-top : (k u : ℕ) → (m k).net.groups ≤ u → shop_up n m k u ≡ oven_node n m
  shop-top k u h = rw (le-ltb _ _ h) (omega arith)

  --------------------------------------------------------------------------------
  -- It is well formed

  module _ (formed : (k : ℕ) → k < n → Formed (m k).net) where
    card_parent : (v : ℕ) → v < oven_node n m → (joined_parent n m v < v) ⊎ (joined_parent n m v ≡ all_groups n m)
    card_parent =
        each_part (cards_of n m) n (λ v. (joined_parent n m v < v) ⊎ (joined_parent n m v ≡ all_groups n m))
        (λ k file g h.
        let up = parent-card k file g h in
        elim ((formed k file).card_parent g h) [
          | inl q ↦ inl (omega (arith, up, card-group k ((m k).net.parent g) (omega (arith, (formed k file).sides))))
          | inr q ↦ inr (up ∙ card-top k ((m k).net.parent g) (omega arith))
        ])

    -- the parent of a shop group of a file is an earlier one of the same file, or the oven
    abbrev Shopped : ℕ → Type 0
    Shopped v = (oven_node n m ≤ joined_parent n m v) × (joined_parent n m v < v)

    shop-below : (k : ℕ) → k < n → (h : ℕ) → h < shops_of n m k → Shopped (first_shop n m + (sum k (shops_of n m) + h))
    shop-below k file h small =
        let at : first_shop n m + (sum k (shops_of n m) + h) ≡ first_shop n m + sum k (shops_of n m) + h = omega arith in
        let up = ap (joined_parent n m) at ∙ parent-shop k file h small in
        elim ((formed k file).shop_parent (cards_of n m k + h) (omega arith) (omega arith)) [
          | inl q ↦
              let on = shop-group k ((m k).net.parent (cards_of n m k + h)) (omega (arith, q.1)) in
              (omega (arith, up, on), omega (arith, up, on, q.0, q.1))
          | inr q ↦
              let on = shop-top k ((m k).net.parent (cards_of n m k + h)) (omega arith) in
              (omega (arith, up, on), omega (arith, up, on))
        ]

    shop_parent : (v : ℕ) → oven_node n m ≤ v → v < all_groups n m → Shopped v ⊎ (joined_parent n m v ≡ all_groups n m + 1)
    shop_parent v low l =
        elim (ℕ_discrete v (oven_node n m)) [
          | yes e ↦ inr (ap (joined_parent n m) e ∙ parent-oven)
          | no e ↦
              let at : first_shop n m + (v - first_shop n m) ≡ v = omega arith in
              inl
              (rw at at
              (each_part (shops_of n m) n (λ h. Shopped (first_shop n m + h)) shop-below (v - first_shop n m) (omega arith)))
        ]

    card-node : (c : ℕ) → c < sum n (rows_of n m) → CardNode (joined_net n m) ((joined_net n m).card c)
    card-node =
        each_part (rows_of n m) n (λ c. CardNode (joined_net n m) ((joined_net n m).card c))
        (λ k file c h.
        let up = row-card k file c h in
        elim ((formed k file).card_node c h) [
          | inl q ↦
              inl
              (omega (
                arith,
                up,
                part_end (cards_of n m) n k file,
                card-group k ((m k).net.card c) (omega (arith, (formed k file).sides)),
              ))
          | inr q ↦ inr (up ∙ card-top k ((m k).net.card c) (omega arith))
        ])

    shop-node : (c : ℕ) → c < sum n (rows_of n m) → ShopNode (joined_net n m) ((joined_net n m).shop c)
    shop-node =
        each_part (rows_of n m) n (λ c. ShopNode (joined_net n m) ((joined_net n m).shop c))
        (λ k file c h.
        let up = row-shop k file c h in
        elim ((formed k file).shop_node c h) [
          | inl q ↦
              let on = shop-group k ((m k).net.shop c) q.1 in
              inl (omega (arith, up, on), omega (arith, up, on, q.0, q.1, part_end (shops_of n m) n k file))
          | inr q ↦
              let on = shop-top k ((m k).net.shop c) (omega arith) in
              inl (omega (arith, up, on), omega (arith, up, on))
        ])

    pub joined-formed : Formed (joined_net n m)
    joined-formed = record {
      sides = omega arith;
      card_parent = card_parent;
      shop_parent = shop_parent;
      card_node = card-node;
      shop_node = shop-node;
    }

    pub joined-down : Down (all_groups n m) (joined_parent n m)
    joined-down = formed-down (joined_net n m) joined-formed
