-- Laws of the tables of a joined day, when the oven and the first files are written. A file's part of the tables lies behind what was written
-- before, and the node above a group is written before it, or is no group: so each limit is lowered to the one that stands above it at the
-- end.
--   filled-oven            the oven alone
--   filled-member          one file more
--   filled-tabled          with all files the tables hold the joined day
use mathlib.Core.Path.{◌≡◌, sym, ap, ◌∙◌}
use mathlib.Core.Logic.{◌⊎◌, inl, inr}
use mathlib.Core.List.{List}
use Prim.Native.Nat.{ℕ, suc, ◌+◌, ◌-◌, ◌^◌, ◌≤◌, ◌<◌}
use native.Mathlib.Decide.{dec_lt}
use native.Mathlib.Omega.{arith}
use Rattle.theory.specs.Sum.{sum}
use Rattle.theory.specs.Lowered.{lesser}
use Rattle.theory.specs.Capped.{capped}
use Rattle.theory.specs.Network.{Instance}
use Rattle.theory.specs.Formed.{Formed}
use Rattle.theory.specs.Priority as priority
use Rattle.theory.proofs.LoweredLaws.{lesser-top, lowered-only}
use Rattle.theory.proofs.CappedLaws.{lowered-capped}
use Rattle.claimfile.specs.Day as day
use Rattle.claimfile.specs.declared.Layout.{Layout}
use Rattle.claimfile.proofs.DayLaws.{sound-formed, shop-node}
use Rattle.scratch.specs.declared.Shape.{Shape}
use Rattle.scratch.specs.Map.{max_spare, table, parents, spares, card_nodes, shop_nodes, weights}
use Rattle.scratch.specs.Map.{spare_of, parent_of, card_of, shop_of, weight_of, Put}
use Rattle.tables.specs.Tables.{Shaped, Tabled, Run, OfGroups, node_above, lifted, PutFile}
use Rattle.tables.proofs.WriteLaws.{not-of-rows}
use Rattle.counters.specs.Joined.{cards_of, shops_of, rows_of, oven_node, first_shop, all_groups, shop_up, joined_parent, joined_net}
use Rattle.counters.specs.Joined.{written_limit, joined}
use Rattle.counters.proofs.PartLaws.{sum-suc, sum-none, part_end}
use Rattle.counters.proofs.JoinLaws as join
use Rattle.members.specs.Accepted.{Members}
use Rattle.joinfile.specs.Files.{members}
use Rattle.jointables.specs.Filled.{spot_of, Before, Filled}
use Rattle.jointables.proofs.UpLaws.{card_at, shop_at, card-up, shop-up, card-written, shop-written}

not-of-groups : (k : ℕ) → card_nodes ≤ k → OfGroups k → ⊥
not-of-groups k h (inl e) = omega arith
not-of-groups k h (inr e) = omega arith

-- rows of one kind weigh the same
weight-at : (N : ℕ) (kind other : ℕ → ℕ) (c e : ℕ) → kind c ≡ other e → priority.weight_of N kind c ≡ priority.weight_of N other e
unfolding priority.weight_of
weight-at N kind other c e q = ap (λ k. (N + 1) ^ k) q

lesser-cong : (G up limit x y : ℕ) → (up < G → x ≡ y) → lesser G up limit x ≡ lesser G up limit y
lesser-cong G up limit x y h =
    elim (dec_lt up G) [
      | yes l ↦ ap (lesser G up limit) (h l)
      | no l ↦ lesser-top G up limit x (omega arith) ∙ sym (lesser-top G up limit y (omega arith))
    ]

module _
    (n : ℕ) (s : ℕ → List ℕ) (l : ℕ → Layout) (oven today : ℕ) (all : Members n s l today) (sh : Shape)
    (shape : Shaped (joined_net n (members s l)) sh)
  where
    abbrev m : ℕ → Instance
    m = members s l

    formed : (k : ℕ) → k < n → Formed (m k).net
    formed k h = sound-formed (s k) (l k) (all.sound k h)

    whole : Formed (joined_net n m)
    whole = join.joined-formed n m formed

    -- what stands in the tables for a limit
    abbrev cut : ℕ → ℕ
    cut v = capped max_spare (written_limit n m oven v)

    abbrev low : List ℕ → ℕ → ℕ
    low t v = lesser (all_groups n m) (joined_parent n m v) (cut v) (spare_of sh t (joined_parent n m v))

    -- the oven is the first shop group, and stands at the top
    oven-only : (v : ℕ) → Before n m 0 v → v ≡ oven_node n m
    oven-only v (inl h) = absurd (omega (arith, sum-none (cards_of n m)))
    oven-only v (inr h) = omega (arith, h.0, h.1, sum-none (shops_of n m))

    pub filled-oven :
        (t r u : List ℕ) → Put sh t r parents (oven_node n m) (all_groups n m + 1) →
        Put sh r u spares (oven_node n m) (capped max_spare oven) → Filled n m oven sh u 0
    filled-oven t r u A B = record {
      parents = λ v b.
          let e = oven-only v b in
          ap (parent_of sh u) e
          ∙ ap (λ (p : ℕ → ℕ). p (oven_node n m)) (B.rest parents (λ q. omega arith))
          ∙ A.puts.here
          ∙ sym (ap (joined_parent n m) e ∙ join.parent-oven n m);
      limits = λ v b.
          let e = oven-only v b in
          ap (spare_of sh u) e
          ∙ B.puts.here
          ∙ sym
          (lesser-top (all_groups n m) (joined_parent n m v) (cut v) (spare_of sh u (joined_parent n m v))
          (omega (arith, ap (joined_parent n m) e, join.parent-oven n m))
          ∙ ap cut e
          ∙ ap (capped max_spare) (join.limit-oven n m oven));
      cards = λ c h. absurd (omega (arith, sum-none (rows_of n m)));
      shops = λ c h. absurd (omega (arith, sum-none (rows_of n m)));
      weights = λ c h. absurd (omega (arith, sum-none (rows_of n m)));
    }

    -- the node above a group of the first files is one of theirs, the oven, or a root
    before-up :
        (k v : ℕ) → Before n m k v → v < all_groups n m → Before n m k (joined_parent n m v) ⊎ (all_groups n m ≤ joined_parent n m v)
    before-up k v (inl b) few =
        elim (dec_lt v (oven_node n m)) [
          | yes c ↦
              elim (whole.card_parent v c) [
                | inl q ↦ inl (inl (omega arith))
                | inr q ↦ inr (omega arith)
              ]
          | no c ↦
              elim (whole.shop_parent v (omega arith) few) [
                | inl q ↦ inl (inl (omega (arith, q.1)))
                | inr q ↦ inr (omega arith)
              ]
        ]
    before-up k v (inr b) few =
        elim (whole.shop_parent v b.0 few) [
          | inl q ↦ inl (inr (q.0, omega (arith, q.1, b.1)))
          | inr q ↦ inr (omega arith)
        ]

    module _ (k : ℕ) (file : k < n) (t w : List ℕ) (P : PutFile (s k) (l k) sh (spot_of n m k) t w) (F : Filled n m oven sh t k) where
      abbrev r : List ℕ
      r = P.after_cards

      abbrev u : List ℕ
      u = P.after_shops

      card-end : sum k (cards_of n m) + cards_of n m k ≤ oven_node n m
      card-end = part_end (cards_of n m) n k file

      shop-end : sum k (shops_of n m) + shops_of n m k ≤ sum n (shops_of n m)
      shop-end = part_end (shops_of n m) n k file

      -- the rows change no table of groups, and the groups none of rows
      same-parents : parent_of sh w ≡ parent_of sh u
      same-parents = P.rows.keeps.rest parents (not-of-rows parents (omega arith))

      same-spares : spare_of sh w ≡ spare_of sh u
      same-spares = P.rows.keeps.rest spares (not-of-rows spares (omega arith))

      same_rows : (j : ℕ) → card_nodes ≤ j → table sh u j ≡ table sh t j
      same_rows j h = P.shops.keeps.rest j (not-of-groups j h) ∙ P.cards.keeps.rest j (not-of-groups j h)

      --------------------------------------------------------------------------
      -- What was written before stays

      -- f is the table of the parents or of the limits
      old :
          (f : List ℕ → ℕ → ℕ) (x y : ℕ → ℕ) → f w ≡ f u → Run (f t) (f r) (sum k (cards_of n m)) (l k).cards x →
          Run (f r) (f u) (first_shop n m + sum k (shops_of n m)) (l k).shops y → (v : ℕ) → Before n m k v → f w v ≡ f t v
      old f x y same cards shops v (inl b) =
          ap (λ (g : ℕ → ℕ). g v) same ∙ shops.else v (inl (omega (arith, card-end))) ∙ cards.else v (inl b)
      old f x y same cards shops v (inr b) =
          ap (λ (g : ℕ → ℕ). g v) same ∙ shops.else v (inl b.1) ∙ cards.else v (inr (omega (arith, card-end, b.0)))

      old-parent : (v : ℕ) → Before n m k v → parent_of sh w v ≡ parent_of sh t v
      old-parent = old (parent_of sh) _ _ same-parents P.cards.parents P.shops.parents

      old-spare : (v : ℕ) → Before n m k v → spare_of sh w v ≡ spare_of sh t v
      old-spare = old (spare_of sh) _ _ same-spares P.cards.limits P.shops.limits

      inside-before : (v : ℕ) → Before n m k v → v < all_groups n m
      inside-before v (inl b) = omega (arith, card-end)
      inside-before v (inr b) = omega (arith, b.1, shop-end)

      old-limit : (v : ℕ) → Before n m k v → spare_of sh w v ≡ low w v
      old-limit v b =
          old-spare v b
          ∙ F.limits v b
          ∙ lesser-cong (all_groups n m) (joined_parent n m v) (cut v) _ _
          (λ few.
          elim (before-up k v b (inside-before v b)) [
            | inl q ↦ sym (old-spare (joined_parent n m v) q)
            | inr q ↦ absurd (omega arith)
          ])

      --------------------------------------------------------------------------
      -- The groups of the file

      card_parent : (g : ℕ) → g < (l k).cards → parent_of sh w (card_at n m k g) ≡ joined_parent n m (card_at n m k g)
      card_parent g h =
          ap (λ (x : ℕ → ℕ). x (card_at n m k g)) same-parents
          ∙ P.shops.parents.else (card_at n m k g) (inl (omega (arith, card-end)))
          ∙ P.cards.parents.here g h
          ∙ ap (λ G. node_above (s k) (l k) 0 (sum k (cards_of n m)) G g) shape.groups
          ∙ card-up n s l oven today all k file g h

      shop_parent : (g : ℕ) → g < (l k).shops → parent_of sh w (shop_at n m k g) ≡ joined_parent n m (shop_at n m k g)
      shop_parent g h =
          ap (λ (x : ℕ → ℕ). x (shop_at n m k g)) same-parents
          ∙ P.shops.parents.here g h
          ∙ shop-up n s l oven today all k file g h

      -- a limit, by the node above the group and by its own as they are in the joined day
      limit-by :
          (x : List ℕ) (G up v limit : ℕ) → G ≡ all_groups n m → up ≡ joined_parent n m v → limit ≡ written_limit n m oven v →
          lesser G up (capped max_spare limit) (spare_of sh x up) ≡ low x v
      limit-by x G up v limit e f g =
          ap (λ G. lesser G up (capped max_spare limit) (spare_of sh x up)) e
          ∙ ap (λ p. lesser (all_groups n m) p (capped max_spare limit) (spare_of sh x p)) f
          ∙ ap (λ y. lesser (all_groups n m) (joined_parent n m v) (capped max_spare y) (spare_of sh x (joined_parent n m v))) g

      -- a cell of a card group is as it was when the cards were written
      card-cell : (v : ℕ) → v < oven_node n m → spare_of sh r v ≡ spare_of sh w v
      card-cell v h = sym (ap (λ (x : ℕ → ℕ). x v) same-spares ∙ P.shops.limits.else v (inl (omega arith)))

      card-limit : (g : ℕ) → g < (l k).cards → spare_of sh w (card_at n m k g) ≡ low w (card_at n m k g)
      card-limit g h =
          sym (card-cell (card_at n m k g) (omega (arith, card-end)))
          ∙ P.cards.limits.here g h
          ∙ limit-by r sh.groups (node_above (s k) (l k) 0 (sum k (cards_of n m)) sh.groups g) (card_at n m k g) _ shape.groups
          (ap (λ G. node_above (s k) (l k) 0 (sum k (cards_of n m)) G g) shape.groups ∙ card-up n s l oven today all k file g h)
          (card-written n s l oven today all k file g h)
          ∙ lesser-cong (all_groups n m) (joined_parent n m (card_at n m k g)) (cut (card_at n m k g)) _ _
          (λ few.
          elim (whole.card_parent (card_at n m k g) (omega (arith, card-end))) [
            | inl q ↦ card-cell (joined_parent n m (card_at n m k g)) (omega (arith, card-end))
            | inr q ↦ absurd (omega arith)
          ])

      shop-limit : (g : ℕ) → g < (l k).shops → spare_of sh w (shop_at n m k g) ≡ low w (shop_at n m k g)
      shop-limit g h =
          ap (λ (x : ℕ → ℕ). x (shop_at n m k g)) same-spares
          ∙ P.shops.limits.here g h
          ∙ limit-by u sh.groups _ (shop_at n m k g) _ shape.groups (shop-up n s l oven today all k file g h)
          (shop-written n s l oven today all k file g h)
          ∙ ap
          (λ (x : ℕ → ℕ). lesser (all_groups n m) (joined_parent n m (shop_at n m k g)) (cut (shop_at n m k g)) (x (joined_parent n m (shop_at n m k g))))
          (sym same-spares)

      --------------------------------------------------------------------------
      -- All of it

      -- a fact of what was written before, of each card group and of each shop group of the file
      each-group :
          (Q : ℕ → Type 0) → ((v : ℕ) → Before n m k v → Q v) → ((g : ℕ) → g < (l k).cards → Q (card_at n m k g)) →
          ((g : ℕ) → g < (l k).shops → Q (shop_at n m k g)) → (v : ℕ) → Before n m (suc k) v → Q v
      each-group Q old card shop v (inl b) =
          elim (dec_lt v (sum k (cards_of n m))) [
            | yes h ↦ old v (inl h)
            | no h ↦
                let e : card_at n m k (v - sum k (cards_of n m)) ≡ v = omega arith in
                rw e at (card (v - sum k (cards_of n m)) (omega (arith, sum-suc (cards_of n m) k)))
          ]
      each-group Q old card shop v (inr b) =
          elim (dec_lt v (first_shop n m + sum k (shops_of n m))) [
            | yes h ↦ old v (inr (b.0, h))
            | no h ↦
                let e : shop_at n m k (v - (first_shop n m + sum k (shops_of n m))) ≡ v = omega arith in
                rw e at (shop (v - (first_shop n m + sum k (shops_of n m))) (omega (arith, b.1, sum-suc (shops_of n m) k)))
          ]

      each_row :
          (Q : ℕ → Type 0) → ((c : ℕ) → c < sum k (rows_of n m) → Q c) → ((c : ℕ) → c < rows_of n m k → Q (sum k (rows_of n m) + c)) →
          (c : ℕ) → c < sum (suc k) (rows_of n m) → Q c
      each_row Q old here c h =
          elim (dec_lt c (sum k (rows_of n m))) [
            | yes i ↦ old c i
            | no i ↦
                let e : sum k (rows_of n m) + (c - sum k (rows_of n m)) ≡ c = omega arith in
                rw e at (here (c - sum k (rows_of n m)) (omega (arith, sum-suc (rows_of n m) k)))
          ]

      weight-here :
          (c : ℕ) → c < rows_of n m k →
          priority.weight_of sh.rows (day.kind_of (s k) (l k)) c
          ≡ priority.weight_of (sum n (rows_of n m)) (joined n m oven).kind (sum k (rows_of n m) + c)
      weight-here c h =
          ap (λ N. priority.weight_of N (day.kind_of (s k) (l k)) c) shape.rows
          ∙ weight-at (sum n (rows_of n m)) (day.kind_of (s k) (l k)) (joined n m oven).kind c (sum k (rows_of n m) + c)
          (sym (join.row-kind n m k file c h oven))

      pub filled-member : Filled n m oven sh w (suc k)
      filled-member = record {
        parents =
            each-group (λ v. parent_of sh w v ≡ joined_parent n m v) (λ v b. old-parent v b ∙ F.parents v b) card_parent shop_parent;
        limits = each-group (λ v. spare_of sh w v ≡ low w v) old-limit card-limit shop-limit;
        cards =
            each_row (λ c. card_of sh w c ≡ (joined_net n m).card c)
            (λ c h. P.rows.cards.else c (inl h) ∙ ap (λ (x : ℕ → ℕ). x c) (same_rows card_nodes (omega arith)) ∙ F.cards c h)
            (λ c h.
            P.rows.cards.here c h
            ∙ ap (lifted (day.groups_of (l k)) (day.card_node (s k) (l k) c) (sum k (cards_of n m))) shape.groups
            ∙ sym (join.row-card n m k file c h));
        shops =
            each_row (λ c. shop_of sh w c ≡ (joined_net n m).shop c)
            (λ c h. P.rows.shops.else c (inl h) ∙ ap (λ (x : ℕ → ℕ). x c) (same_rows shop_nodes (omega arith)) ∙ F.shops c h)
            (λ c h.
            P.rows.shops.here c h
            ∙ sym
            (join.row-shop n m k file c h
            ∙ ap (shop_up n m k) (shop-node (s k) (l k) c)
            ∙ join.shop-group n m k ((l k).cards + day.named_shop (s k) (l k) c) (omega (arith, (all.sound k file).row_shops c h))
            ∙ omega arith));
        weights =
            each_row (λ c. weight_of sh w c ≡ priority.weight_of (sum n (rows_of n m)) (joined n m oven).kind c)
            (λ c h. P.rows.weights.else c (inl h) ∙ ap (λ (x : ℕ → ℕ). x c) (same_rows weights (omega arith)) ∙ F.weights c h)
            (λ c h. P.rows.weights.here c h ∙ weight-here c h);
      }

    pub filled-tabled : (t : List ℕ) → Filled n m oven sh t n → Tabled (joined n m oven) sh t
    filled-tabled t F = record {
      parents = λ v h. F.parents v (before v h);
      limits = λ v h.
          lowered-only (all_groups n m) (joined_parent n m) (join.joined-down n m formed) cut (spare_of sh t)
          (λ x i. F.limits x (before x i)) v h
          ∙ sym (lowered-capped max_spare (all_groups n m) (joined_parent n m) (join.joined-down n m formed) (written_limit n m oven) v h);
      cards = F.cards;
      shops = F.shops;
      weights = F.weights;
    }
      where
        before : (v : ℕ) → v < all_groups n m → Before n m n v
        before v h = elim (dec_lt v (oven_node n m)) [ yes q ↦ inl q | no q ↦ inr (omega arith, h) ]
