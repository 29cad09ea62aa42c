-- The day of the joined file is the joined day. Both have the same groups one after the other, each file's moved by the groups before it; a
-- group's parent is moved in the file as its node is in the day, and the oven stands for the root over each file's shop groups in both. The
-- members are new files, whose limits are the written ones, and from the written limits both lower alike.
--   up-card up-shop written-card written-shop      a group of either side, by its record
--   joined-groups          how many groups the joined file has
--   joined_same            its day agrees with the joined day at every group and every row
--   alone-in-file          so each counter keeps in it exactly what it would keep alone
use mathlib.Core.Path.{◌≡◌, refl, sym, ap, ◌∙◌}
use mathlib.Core.List.{List}
use Prim.Native.Nat.{ℕ, ◌+◌, ◌-◌, ◌≤◌, ◌<◌}
use native.Mathlib.Nat.{zero-add}
use native.Mathlib.Decide.{ℕ_discrete, dec_lt}
use native.Mathlib.Omega.{arith}
use Rattle.theory.specs.Sum.{sum}
use Rattle.theory.specs.Lowered.{lesser, lowered}
use Rattle.theory.specs.Network.{Instance}
use Rattle.theory.specs.Formed.{Formed}
use Rattle.theory.specs.Matroid.{row}
use Rattle.theory.specs.Best.{Agree}
use Rattle.theory.specs.Search.{best_choice}
use Rattle.theory.proofs.SumLaws.{sum-cong}
use Rattle.theory.proofs.BestLaws.{best-kinds}
use Rattle.theory.proofs.AlikeLaws.{best-alike}
use Rattle.theory.proofs.ChoiceLaws.{choice-is, choice-only}
use Rattle.theory.proofs.LoweredLaws.{lowered-step, lowered-only}
use Rattle.claimfile.specs.File.{first_terms, top, days}
use Rattle.claimfile.specs.Day as day
use Rattle.claimfile.specs.declared.Layout.{Layout}
use Rattle.claimfile.specs.declared.Group.{Group}
use Rattle.claimfile.specs.declared.Claim.{Claim}
use Rattle.claimfile.proofs.DayLaws.{parent-on, written_on, card-node, shop-node, card-ordinary, card-earned}
use Rattle.claimfile.proofs.DayLaws.{day-down, sound-formed}
use Rattle.claimwriter.specs.Written.{Contents}
use Rattle.counters.specs.Joined.{shops_of, first_shop, all_groups, card_up, shop_up, joined_parent, joined_net}
use Rattle.counters.specs.Joined.{written_limit, joined}
use Rattle.counters.proofs.PartLaws.{part_end, each_part}
use Rattle.counters.proofs.JoinLaws as join
use Rattle.counters.proofs.AloneLaws.{alone}
use Rattle.members.specs.Accepted.{Members}
use Rattle.joinfile.specs.Files.{cards_in, shops_in, rows_in, claim_in, joined_file, joined_layout}
use Rattle.joinfile.specs.Files.{contents_of, members, DaysAgree}
use Rattle.joinfile.proofs.FileLaws.{above-group, above-top, card-inside, shop-inside, oven-limit, card-read, shop-read}
use Rattle.joinfile.proofs.FileLaws.{claim-read, joined-kinds, joined-kind}

--------------------------------------------------------------------------------
-- A group by its record

module _ (s : List ℕ) (l : Layout) (g : ℕ) where
  pub up-card : g < l.cards → day.parent_of s l g ≡ day.above g (day.group_of s l 0 g).parent 0 (day.groups_of l)
  up-card h = ap (day.parent_of s l) (sym (zero-add g)) ∙ parent-on s l 0 g h

  pub up-shop :
      g < l.shops → day.parent_of s l (l.cards + g) ≡ day.above g (day.group_of s l 1 g).parent l.cards (day.groups_of l + 1)
  up-shop h = parent-on s l 1 g h

  pub written-card : g < l.cards → day.written_of s l g ≡ (day.group_of s l 0 g).limit
  written-card h = ap (day.written_of s l) (sym (zero-add g)) ∙ written_on s l 0 g h

  pub written-shop : g < l.shops → day.written_of s l (l.cards + g) ≡ (day.group_of s l 1 g).limit
  written-shop h = written_on s l 1 g h

module _ (n : ℕ) (s : ℕ → List ℕ) (l : ℕ → Layout) (oven today : ℕ) (all : Members n s l today) (small : oven < 65536) where
  abbrev m : ℕ → Instance
  m = members s l

  abbrev d : ℕ → Contents
  d = contents_of s l

  abbrev cards : ℕ → ℕ
  cards = cards_in n d

  abbrev shops : ℕ → ℕ
  shops = shops_in n d

  abbrev rows : ℕ → ℕ
  rows = rows_in n d

  abbrev J : List ℕ
  J = joined_file n d oven

  abbrev L : Layout
  L = joined_layout n d oven today

  -- the node of the first shop group is that of the oven
  abbrev oven-at : ℕ
  oven-at = sum n cards

  -- the parent in a record of file k
  abbrev parent_in : ℕ → ℕ → ℕ → ℕ
  parent_in side k g = (day.group_of (s k) (l k) side g).parent

  formed : (k : ℕ) → k < n → Formed (m k).net
  formed k h = sound-formed (s k) (l k) (all.sound k h)

  shops-sum : (k : ℕ) → sum k (shops_of n m) ≡ sum k shops
  shops-sum k = sum-cong k (λ j h. omega arith)

  pub joined-groups : day.groups_of L ≡ all_groups n m
  joined-groups = omega (arith, shops-sum n)

  -- the node of a shop group in the joined day and in the joined file
  shop-spot : (k g : ℕ) → first_shop n m + sum k (shops_of n m) + g ≡ oven-at + (1 + (sum k shops + g))
  shop-spot k g = omega (arith, shops-sum k)

  -- a fact of each card group, of the oven and of each shop group is one of every node
  each-node :
      (P : ℕ → Type 0) → ((k : ℕ) → k < n → (g : ℕ) → g < cards k → P (sum k cards + g)) → P oven-at →
      ((k : ℕ) → k < n → (g : ℕ) → g < shops k → P (oven-at + (1 + (sum k shops + g)))) →
      (v : ℕ) → v < day.groups_of L → P v
  each-node P card over shop v h =
      elim (dec_lt v oven-at) [
        | yes q ↦ each_part cards n P card v q
        | no q ↦
            elim (ℕ_discrete v oven-at) [
              | yes e ↦ rw e over
              | no e ↦
                  let at : oven-at + (1 + (v - oven-at - 1)) ≡ v = omega arith in
                  rw at at (each_part shops n (λ g. P (oven-at + (1 + g))) shop (v - oven-at - 1) (omega arith))
            ]
      ]

  module _ (week : today < days) where
    ----------------------------------------------------------------------------
    -- The parents

    parents-card :
        (k : ℕ) → k < n → (g : ℕ) → g < cards k → day.parent_of J L (sum k cards + g) ≡ joined_parent n m (sum k cards + g)
    parents-card k file g h =
        up-card J L (sum k cards + g) inside
        ∙ ap (λ (x : Group). day.above (sum k cards + g) x.parent 0 (day.groups_of L)) (card-read n d oven today week k file g h)
        ∙ cases
        ∙ sym (join.parent-card n m k file g h ∙ ap (card_up n m k) (up-card (s k) (l k) g h))
      where
        inside : sum k cards + g < sum n cards
        inside = card-inside n d oven k file g h

        cases :
            day.above (sum k cards + g) (day.above g (parent_in 0 k g) (sum k cards) top) 0 (day.groups_of L)
            ≡ card_up n m k (day.above g (parent_in 0 k g) 0 (day.groups_of (l k)))
        cases =
            elim (dec_lt (parent_in 0 k g) g) [
              | yes q ↦
                  ap (λ p. day.above (sum k cards + g) p 0 (day.groups_of L)) (above-group g (parent_in 0 k g) (sum k cards) top q)
                  ∙ above-group (sum k cards + g) (sum k cards + parent_in 0 k g) 0 (day.groups_of L) (omega arith)
                  ∙ sym
                  (ap (card_up n m k) (above-group g (parent_in 0 k g) 0 (day.groups_of (l k)) q)
                  ∙ join.card-group n m k (0 + parent_in 0 k g) (omega arith)
                  ∙ omega arith)
              | no q ↦
                  ap (λ p. day.above (sum k cards + g) p 0 (day.groups_of L))
                  (above-top g (parent_in 0 k g) (sum k cards) top (omega arith))
                  ∙ above-top (sum k cards + g) top 0 (day.groups_of L) (omega (arith, inside, all.cards_most))
                  ∙ joined-groups
                  ∙ sym
                  (ap (card_up n m k) (above-top g (parent_in 0 k g) 0 (day.groups_of (l k)) (omega arith))
                  ∙ join.card-top n m k (day.groups_of (l k)) (omega arith))
            ]

    parents-shop :
        (k : ℕ) → k < n → (g : ℕ) → g < shops k →
        day.parent_of J L (oven-at + (1 + (sum k shops + g))) ≡ joined_parent n m (oven-at + (1 + (sum k shops + g)))
    parents-shop k file g h =
        up-shop J L (1 + (sum k shops + g)) (shop-inside n d oven k file g h)
        ∙ ap (λ (x : Group). day.above (1 + (sum k shops + g)) x.parent oven-at (day.groups_of L + 1))
        (shop-read n d oven today week k file g h)
        ∙ cases
        ∙ sym
        (ap (joined_parent n m) (sym (shop-spot k g))
        ∙ join.parent-shop n m k file g (omega arith)
        ∙ ap (shop_up n m k) (up-shop (s k) (l k) g h))
      where
        cases :
            day.above (1 + (sum k shops + g)) (day.above g (parent_in 1 k g) (1 + sum k shops) 0) oven-at (day.groups_of L + 1)
            ≡ shop_up n m k (day.above g (parent_in 1 k g) (l k).cards (day.groups_of (l k) + 1))
        cases =
            elim (dec_lt (parent_in 1 k g) g) [
              | yes q ↦
                  ap (λ p. day.above (1 + (sum k shops + g)) p oven-at (day.groups_of L + 1))
                  (above-group g (parent_in 1 k g) (1 + sum k shops) 0 q)
                  ∙ above-group (1 + (sum k shops + g)) (1 + sum k shops + parent_in 1 k g) oven-at (day.groups_of L + 1) (omega arith)
                  ∙ sym
                  (ap (shop_up n m k) (above-group g (parent_in 1 k g) (l k).cards (day.groups_of (l k) + 1) q)
                  ∙ join.shop-group n m k ((l k).cards + parent_in 1 k g) (omega arith)
                  ∙ omega (arith, shops-sum k))
              | no q ↦
                  ap (λ p. day.above (1 + (sum k shops + g)) p oven-at (day.groups_of L + 1))
                  (above-top g (parent_in 1 k g) (1 + sum k shops) 0 (omega arith))
                  ∙ above-group (1 + (sum k shops + g)) 0 oven-at (day.groups_of L + 1) (omega arith)
                  ∙ sym
                  (ap (shop_up n m k) (above-top g (parent_in 1 k g) (l k).cards (day.groups_of (l k) + 1) (omega arith))
                  ∙ join.shop-top n m k (day.groups_of (l k) + 1) (omega arith)
                  ∙ omega arith)
            ]

    first-shop : 0 < 1 + sum n shops
    first-shop = omega arith

    at-oven : oven-at ≡ oven-at + 0
    at-oven = omega arith

    parents-oven : day.parent_of J L oven-at ≡ joined_parent n m oven-at
    parents-oven =
        ap (day.parent_of J L) at-oven
        ∙ up-shop J L 0 first-shop
        ∙ above-top 0 (day.group_of J L 1 0).parent oven-at (day.groups_of L + 1) (omega arith)
        ∙ ap (λ (x : ℕ). x + 1) joined-groups
        ∙ sym (join.parent-oven n m)

    parents-same : (v : ℕ) → v < day.groups_of L → day.parent_of J L v ≡ joined_parent n m v
    parents-same = each-node (λ v. day.parent_of J L v ≡ joined_parent n m v) parents-card parents-oven parents-shop

    ----------------------------------------------------------------------------
    -- The limits

    -- those of today are the ones that the members' layouts name
    of-today :
        (k : ℕ) → k < n → (side g : ℕ) →
        (day.group_of (s k) (day.on_day (l k) today) side g).limit ≡ (day.group_of (s k) (l k) side g).limit
    of-today k file side g = ap (λ t. (day.group_of (s k) (day.on_day (l k) t) side g).limit) (sym (all.today k file))

    written_same : (v : ℕ) → v < day.groups_of L → day.written_of J L v ≡ written_limit n m oven v
    written_same =
        each-node (λ v. day.written_of J L v ≡ written_limit n m oven v)
        (λ k file g h.
        written-card J L (sum k cards + g) (card-inside n d oven k file g h)
        ∙ ap (λ (x : Group). x.limit) (card-read n d oven today week k file g h)
        ∙ of-today k file 0 g
        ∙ sym (join.limit-card n m k file g h oven ∙ all.new k file g (omega arith) ∙ written-card (s k) (l k) g h))
        (ap (day.written_of J L) at-oven
        ∙ written-shop J L 0 first-shop
        ∙ oven-limit n d oven today week
        ∙ sym (join.limit-oven n m oven))
        (λ k file g h.
        written-shop J L (1 + (sum k shops + g)) (shop-inside n d oven k file g h)
        ∙ ap (λ (x : Group). x.limit) (shop-read n d oven today week k file g h)
        ∙ of-today k file 1 g
        ∙ sym
        (ap (written_limit n m oven) (sym (shop-spot k g))
        ∙ join.limit-shop n m k file g (omega arith) oven
        ∙ all.new k file ((l k).cards + g) (omega arith)
        ∙ written-shop (s k) (l k) g h))

    limits-same : (v : ℕ) → v < day.groups_of L → day.limit_of J L v ≡ (joined n m oven).limit v
    unfolding day.limit_of
    limits-same v h =
        lowered-only (all_groups n m) (joined_parent n m) (join.joined-down n m formed) (written_limit n m oven) low step v
        (omega (arith, joined-groups))
      where
        low : ℕ → ℕ
        low = lowered (day.groups_of L) (day.parent_of J L) (day.written_of J L)

        step :
            (v : ℕ) → v < all_groups n m →
            low v ≡ lesser (all_groups n m) (joined_parent n m v) (written_limit n m oven v) (low (joined_parent n m v))
        step v h =
            let in-file : v < day.groups_of L = omega (arith, joined-groups) in
            lowered-step (day.groups_of L) (day.parent_of J L) (day-down J L) (day.written_of J L) v in-file
            ∙ ap (λ G. lesser G (day.parent_of J L v) (day.written_of J L v) (low (day.parent_of J L v))) joined-groups
            ∙ ap (λ p. lesser (all_groups n m) p (day.written_of J L v) (low p)) (parents-same v in-file)
            ∙ ap (λ w. lesser (all_groups n m) (joined_parent n m v) w (low (joined_parent n m v))) (written_same v in-file)

    ----------------------------------------------------------------------------
    -- The rows

    cards-same : (k : ℕ) → k < n → (c : ℕ) → c < rows k → day.card_node J L (sum k rows + c) ≡ (joined_net n m).card (sum k rows + c)
    cards-same k file c h =
        card-node J L (sum k rows + c)
        ∙ ap (day.card_by (day.parent_of J L)) (claim-read n d oven today k file c h)
        ∙ cases
        ∙ sym (join.row-card n m k file c h ∙ ap (card_up n m k) (card-node (s k) (l k) c))
      where
        inside : day.named_card (s k) (l k) c < cards k
        inside = (all.sound k file).row_cards c h

        moved : (claim_in n d k c).card ≡ sum k cards + day.named_card (s k) (l k) c
        moved = omega arith

        cases :
            day.card_by (day.parent_of J L) (claim_in n d k c)
            ≡ card_up n m k (day.card_by (day.parent_of (s k) (l k)) (day.claim_of (s k) (l k) c))
        cases =
            elim (ℕ_discrete (day.kind_of (s k) (l k) c) 0) [
              | yes e ↦
                  card-ordinary (day.parent_of J L) (claim_in n d k c) e
                  ∙ moved
                  ∙ sym
                  (ap (card_up n m k) (card-ordinary (day.parent_of (s k) (l k)) (day.claim_of (s k) (l k) c) e)
                  ∙ join.card-group n m k (day.named_card (s k) (l k) c) (omega (arith, inside)))
              | no e ↦
                  card-earned (day.parent_of J L) (claim_in n d k c) e
                  ∙ ap (day.parent_of J L) moved
                  ∙ parents-card k file (day.named_card (s k) (l k) c) inside
                  ∙ join.parent-card n m k file (day.named_card (s k) (l k) c) inside
                  ∙ sym (ap (card_up n m k) (card-earned (day.parent_of (s k) (l k)) (day.claim_of (s k) (l k) c) e))
            ]

    shops-same : (k : ℕ) → k < n → (c : ℕ) → c < rows k → day.shop_node J L (sum k rows + c) ≡ (joined_net n m).shop (sum k rows + c)
    shops-same k file c h =
        shop-node J L (sum k rows + c)
        ∙ ap (λ (x : Claim). oven-at + x.shop) (claim-read n d oven today k file c h)
        ∙ sym
        (join.row-shop n m k file c h
        ∙ ap (shop_up n m k) (shop-node (s k) (l k) c)
        ∙ join.shop-group n m k ((l k).cards + day.named_shop (s k) (l k) c) (omega (arith, (all.sound k file).row_shops c h))
        ∙ omega (arith, shops-sum k))

    ----------------------------------------------------------------------------
    -- Promises

    -- "Result, buffers and day are those of settling one joined file."
    pub joined_same : DaysAgree (day.instance_of J L) (joined n m oven)
    joined_same = record {
      net = record {
        cards = refl;
        groups = joined-groups;
        rows = refl;
        parent = parents-same;
        card = each_part rows n (λ c. day.card_node J L c ≡ (joined_net n m).card c) cards-same;
        shop = each_part rows n (λ c. day.shop_node J L c ≡ (joined_net n m).shop c) shops-same;
      };
      limits = limits-same;
      kinds =
          each_part rows n (λ c. day.kind_of J L c ≡ (joined n m oven).kind c)
          (λ k file c h. joined-kind n s l oven today all small k file c h ∙ sym (join.row-kind n m k file c h oven));
    }

    module _ (k : ℕ) (file : k < n) (wide : sum n rows ≤ oven) where
      -- "each counter keeps exactly what it would keep alone, whichever files the others send": what file k keeps is said by file k
      pub alone-in-file :
          Agree (rows k)
          (λ c. row (best_choice (day.network_of J L) (day.limit_of J L) first_terms (day.kind_of J L)) (sum k rows + c))
          (row (best_choice (day.network_of (s k) (l k)) (day.limit_of (s k) (l k)) first_terms (day.kind_of (s k) (l k))))
      alone-in-file c h =
          choice-only (joined_net n m) (joined n m oven).limit first_terms (joined n m oven).kind
          (λ c h. omega (arith, joined_same.kinds c h, kinds c h))
          (best-kinds (sum n rows) first_terms joined_same.kinds
          (best-alike (day.network_of J L) (joined_net n m) joined_same.net (day.limit_of J L) (joined n m oven).limit limits-same
          (sum n rows) first_terms (day.kind_of J L) (row (best_choice (day.network_of J L) (day.limit_of J L) first_terms (day.kind_of J L)))
          (choice-is (day.network_of J L) (day.limit_of J L) first_terms (day.kind_of J L) kinds)))
          (sum k rows + c) (omega (arith, part_end rows n k file))
          ∙ alone n m formed k file oven wide first_terms all.kinds c h
        where
          kinds : (c : ℕ) → c < sum n rows → day.kind_of J L c < first_terms
          kinds = joined-kinds n s l oven today all small
