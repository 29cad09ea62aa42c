-- Each counter alone: "If .. the oven limit is at least the number of all claims, each counter keeps exactly what it would keep alone". A row
-- of a file counts in that file's groups as it does in the file, in no other file's group, and in the oven, which then never is full. So any
-- choice of one file's rows that fits the file may stand in the place of those of a choice that fits, and `part-best` applies.
--   spot                   where a group of file k stands in the joined day
--   spot-inside spot-one spot-apart    it is a group and not the oven; one group of one file stands there
--   Stands                 node u of file k is node w of the joined day, or u is a root and w is the oven or a root
--   chain-own chain-else   what is above a node of file k: its groups as in the file, and besides them at most the oven
--   on-own on-else         so a row of file k counts in its own groups as in the file, and in no other group but the oven
--   load-own               and a group of file k counts the rows of file k
--   limit-own              by the limit that it has in the file
--   into swap              a choice that fits the joined day fits each file, and file k's rows may be exchanged in it
--   alone                  the best choice of the joined day at file k's rows is the best choice of file k's day
use mathlib.Core.Path.{◌≡◌, sym, ap, ap₂, ◌∙◌}
use mathlib.Core.List.{List}
use mathlib.Core.Logic.{◌⊎◌, inl, inr, ◌≢◌}
use Prim.Native.Nat.{ℕ, zero, suc, ◌+◌, ◌*◌, ◌-◌, ◌≤◌, ◌<◌}
use native.Mathlib.Nat.{mul-le-mul}
use native.Mathlib.Decide.{ℕ_discrete, dec_lt}
use native.Mathlib.Omega.{arith}
use lib.Dec.{ltb}
use borrow.Author.Tests.{lt-ltb, le-ltb}
use Rattle.theory.specs.Sum.{pick, sum, same}
use Rattle.theory.specs.Forest.{Down, chain}
use Rattle.theory.specs.Incidence.{Selection, load}
use Rattle.theory.specs.Matroid.{row}
use Rattle.theory.specs.Network.{Network, Instance, node, on_side, FitsSide, FitsBoth}
use Rattle.theory.specs.Formed.{Formed, CardNode, ShopNode}
use Rattle.theory.specs.Best.{Agree}
use Rattle.theory.specs.Search.{best_choice}
use Rattle.theory.proofs.SumLaws.{sum-cong, sum_bound, same-eq, same-ne}
use Rattle.theory.proofs.ForestLaws.{forest-ind, chain-out, chain-in, chain-small}
use Rattle.theory.proofs.IncidenceLaws.{load-cong}
use Rattle.theory.proofs.TestLaws.{find}
use Rattle.theory.proofs.NetworkLaws.{formed-down}
use Rattle.theory.proofs.LoweredLaws.{lowered-lists}
use Rattle.theory.proofs.ListsLaws.{lists-choice}
use Rattle.theory.proofs.ChoiceLaws.{choice-is, choice-only}
use Rattle.counters.specs.Joined.{cards_of, shops_of, rows_of, oven_node, first_shop, all_groups, card_up, shop_up}
use Rattle.counters.specs.Joined.{joined_parent, joined_net, written_limit, joined}
use Rattle.counters.proofs.PartLaws.{sum-part, part_end, located, each_part, apart}
use Rattle.counters.proofs.PartLaws.{splice, splice_at, splice-bit, splice-sum, part-best}
use Rattle.counters.proofs.JoinLaws as join

module _ (n : ℕ) (m : ℕ → Instance) (formed : (k : ℕ) → k < n → Formed (m k).net) where
  abbrev cards : ℕ → ℕ
  cards = cards_of n m

  abbrev shops : ℕ → ℕ
  shops = shops_of n m

  abbrev rows : ℕ → ℕ
  rows = rows_of n m

  -- how many groups file k has
  abbrev size : ℕ → ℕ
  size k = (m k).net.groups

  abbrev oven-at : ℕ
  oven-at = oven_node n m

  abbrev G : ℕ
  G = all_groups n m

  abbrev N : ℕ
  N = sum n rows

  abbrev up : ℕ → ℕ
  up = joined_parent n m

  abbrev whole : Network
  whole = joined_net n m

  down : Down G up
  down = join.joined-down n m formed

  --------------------------------------------------------------------------------
  -- Where the groups of a file stand

  abbrev pub spot : ℕ → ℕ → ℕ
  spot k u = pick (ltb u (cards k)) (sum k cards + u) (first_shop n m + sum k shops + (u - cards k))

  spot-card : (k u : ℕ) → u < cards k → spot k u ≡ sum k cards + u
  spot-card k u h = rw (lt-ltb _ _ h)

  spot-shop : (k u : ℕ) → cards k ≤ u → spot k u ≡ first_shop n m + sum k shops + (u - cards k)
  spot-shop k u h = rw (le-ltb _ _ h)

  abbrev pub Stands : ℕ → ℕ → ℕ → Type 0
  Stands k u w = ((u < size k) × (w ≡ spot k u)) ⊎ ((size k ≤ u) × ((w ≡ oven-at) ⊎ (G ≤ w)))

  -- a group of one file is none of another
  spot-apart : (j k : ℕ) → j < n → k < n → j ≢ k → (u v : ℕ) → u < size j → v < size k → spot j u ≢ spot k v
  spot-apart j k a b d u v h l e =
      elim (dec_lt u (cards j)) [
        | yes x ↦
            elim (dec_lt v (cards k)) [
              | yes y ↦ d (apart cards j k u v x y (sym (spot-card j u x) ∙ e ∙ spot-card k v y))
              | no y ↦ omega (arith, spot-card j u x, spot-shop k v (omega arith), part_end cards n j a)
            ]
        | no x ↦
            elim (dec_lt v (cards k)) [
              | yes y ↦ omega (arith, spot-card k v y, spot-shop j u (omega arith), part_end cards n k b)
              | no y ↦
                  d
                  (apart shops j k (u - cards j) (v - cards k) (omega arith) (omega arith)
                  (omega (arith, spot-shop j u (omega arith), spot-shop k v (omega arith))))
            ]
      ]

  module _ (k : ℕ) (file : k < n) where
    f : Formed (m k).net
    f = formed k file

    pub spot-inside : (u : ℕ) → u < size k → (spot k u < G) × (spot k u ≢ oven-at)
    spot-inside u h =
        elim (dec_lt u (cards k)) [
          | yes l ↦
              let on = spot-card k u l in
              let end = part_end cards n k file in
              (omega (arith, on, end), λ e. omega (arith, on, end, e))
          | no l ↦
              let on = spot-shop k u (omega arith) in
              (omega (arith, on, part_end shops n k file), λ e. omega (arith, on, e))
        ]

    pub spot-one : (u v : ℕ) → u < size k → v < size k → spot k u ≡ spot k v → u ≡ v
    spot-one u v h l e =
        elim (dec_lt u (cards k)) [
          | yes a ↦
              elim (dec_lt v (cards k)) [
                | yes b ↦ omega (arith, spot-card k u a, spot-card k v b)
                | no b ↦ absurd (omega (arith, spot-card k u a, spot-shop k v (omega arith), part_end cards n k file))
              ]
          | no a ↦
              elim (dec_lt v (cards k)) [
                | yes b ↦ absurd (omega (arith, spot-card k v b, spot-shop k u (omega arith), part_end cards n k file))
                | no b ↦ omega (arith, spot-shop k u (omega arith), spot-shop k v (omega arith))
              ]
        ]

    spot-same : (u v : ℕ) → u < size k → v < size k → same (spot k u) (spot k v) ≡ same u v
    spot-same u v h l =
        elim (ℕ_discrete u v) [
          | yes e ↦ same-eq (spot k u) (spot k v) (ap (spot k) e) ∙ sym (same-eq u v e)
          | no e ↦ same-ne (spot k u) (spot k v) (λ q. e (spot-one u v h l q)) ∙ sym (same-ne u v e)
        ]

    card-stands : (u : ℕ) → CardNode (m k).net u → Stands k u (card_up n m k u)
    card-stands u (inl h) =
        inl (omega (arith, f.sides), join.card-group n m k u (omega (arith, f.sides)) ∙ sym (spot-card k u h))
    card-stands u (inr h) = inr (omega arith, inr (omega (arith, join.card-top n m k u (omega arith))))

    shop-stands : (u : ℕ) → ShopNode (m k).net u → Stands k u (shop_up n m k u)
    shop-stands u (inl h) = inl (h.1, join.shop-group n m k u h.1 ∙ sym (spot-shop k u h.0))
    shop-stands u (inr h) = inr (omega arith, inl (join.shop-top n m k u (omega arith)))

    stands_up : (u : ℕ) → u < size k → Stands k ((m k).net.parent u) (up (spot k u))
    stands_up u h =
        elim (dec_lt u (cards k)) [
          | yes l ↦
              let on : up (spot k u) ≡ card_up n m k ((m k).net.parent u) =
              ap up (spot-card k u l) ∙ join.parent-card n m k file u l in
              rw on
              (card-stands ((m k).net.parent u)
              (elim (f.card_parent u l) [ inl q ↦ inl (omega arith) | inr q ↦ inr q ]))
          | no l ↦
              let back : cards k + (u - cards k) ≡ u = omega arith in
              let on : up (spot k u) ≡ shop_up n m k ((m k).net.parent u) =
              ap up (spot-shop k u (omega arith))
              ∙ join.parent-shop n m k file (u - cards k) (omega arith)
              ∙ ap (λ x. shop_up n m k ((m k).net.parent x)) back in
              rw on
              (shop-stands ((m k).net.parent u)
              (elim (f.shop_parent u (omega arith) h) [ inl q ↦ inl (q.0, omega (arith, q.1)) | inr q ↦ inr q ]))
        ]

    row-stands : (side c : ℕ) → c < rows k → Stands k (node (m k).net side c) (node whole side (sum k rows + c))
    row-stands zero c h = rw (join.row-card n m k file c h) (card-stands ((m k).net.card c) (f.card_node c h))
    row-stands (suc side) c h = rw (join.row-shop n m k file c h) (shop-stands ((m k).net.shop c) (f.shop_node c h))

    ----------------------------------------------------------------------------
    -- What the rows of a file count in

    -- above the roots there is at most the oven
    top-chain : (w x : ℕ) → x ≢ oven-at → (w ≡ oven-at) ⊎ (G ≤ w) → chain G up w x ≡ 0
    top-chain w x other (inl e) =
        ap (λ y. chain G up y x) e
        ∙ chain-in G up down oven-at x (omega arith)
        ∙ ap₂ ◌+◌ (same-ne oven-at x (λ q. other (sym q))) (chain-out G up down (up oven-at) x (omega (arith, join.parent-oven n m)))
    top-chain w x other (inr h) = chain-out G up down w x h

    pub chain-own :
        (v : ℕ) → v < size k → (u w : ℕ) → Stands k u w → chain G up w (spot k v) ≡ chain (size k) (m k).net.parent u v
    chain-own v l =
        forest-ind (size k) (m k).net.parent (formed-down (m k).net f)
        (λ u. (w : ℕ) → Stands k u w → chain G up w (spot k v) ≡ chain (size k) (m k).net.parent u v)
        (λ u h w s.
        elim s [
          | inl q ↦ absurd (omega (arith, q.0))
          | inr q ↦
              top-chain w (spot k v) (spot-inside v l).1 q.1
              ∙ sym (chain-out (size k) (m k).net.parent (formed-down (m k).net f) u v h)
        ])
        (λ u h i w s.
        elim s [
          | inl q ↦
              ap (λ y. chain G up y (spot k v)) q.1
              ∙ chain-in G up down (spot k u) (spot k v) (spot-inside u h).0
              ∙ ap₂ ◌+◌ (spot-same u v h l) (i (up (spot k u)) (stands_up u h))
              ∙ sym (chain-in (size k) (m k).net.parent (formed-down (m k).net f) u v h)
          | inr q ↦ absurd (omega (arith, q.0))
        ])

    pub chain-else :
        (x : ℕ) → x ≢ oven-at → ((v : ℕ) → v < size k → spot k v ≢ x) → (u w : ℕ) → Stands k u w → chain G up w x ≡ 0
    chain-else x other none =
        forest-ind (size k) (m k).net.parent (formed-down (m k).net f)
        (λ u. (w : ℕ) → Stands k u w → chain G up w x ≡ 0)
        (λ u h w s.
        elim s [
          | inl q ↦ absurd (omega (arith, q.0))
          | inr q ↦ top-chain w x other q.1
        ])
        (λ u h i w s.
        elim s [
          | inl q ↦
              ap (λ y. chain G up y x) q.1
              ∙ chain-in G up down (spot k u) x (spot-inside u h).0
              ∙ ap₂ ◌+◌ (same-ne (spot k u) x (none u h)) (i (up (spot k u)) (stands_up u h))
          | inr q ↦ absurd (omega (arith, q.0))
        ])

    pub on-own :
        (side c v : ℕ) → c < rows k → v < size k → on_side whole side (sum k rows + c) (spot k v) ≡ on_side (m k).net side c v
    unfolding on_side
    on-own side c v h l = chain-own v l (node (m k).net side c) (node whole side (sum k rows + c)) (row-stands side c h)

    pub on-else :
        (side c x : ℕ) → c < rows k → x ≢ oven-at → ((v : ℕ) → v < size k → spot k v ≢ x) → on_side whole side (sum k rows + c) x ≡ 0
    unfolding on_side
    on-else side c x h other none =
        chain-else x other none (node (m k).net side c) (node whole side (sum k rows + c)) (row-stands side c h)

  module _ (k : ℕ) (file : k < n) where
    abbrev first-row : ℕ
    first-row = sum k rows

    room : first-row + rows k ≤ N
    room = part_end rows n k file

    -- rows of other files count in no group of file k
    on-others :
        (side c v : ℕ) → c < N → (c < first-row) ⊎ (first-row + rows k ≤ c) → v < size k → on_side whole side c (spot k v) ≡ 0
    on-others side c v l out h =
        let r = located rows n c l in
        ap (λ x. on_side whole side x (spot k v)) (sym r.is)
        ∙ on-else r.part r.inside side r.place (spot k v) r.small (spot-inside k file v h).1
        (λ u a. spot-apart r.part k r.inside file (not_own r.part r.place r.small r.is) u v a h)
      where
        not_own : (j i : ℕ) → i < rows j → sum j rows + i ≡ c → j ≢ k
        not_own j i s is e =
            let same_sum = ap (λ x. sum x rows) e in
            elim out [
              | inl b ↦ omega (arith, same_sum)
              | inr b ↦ omega (arith, same_sum, ap rows e)
            ]

    pub load-own :
        (side : ℕ) (X : ℕ → ℕ) (v : ℕ) → v < size k →
        load N (on_side whole side) X (spot k v) ≡ load (rows k) (on_side (m k).net side) (λ i. X (first-row + i)) v
    unfolding load
    load-own side X v h =
        sum-part N first-row (rows k) (λ c. X c * on_side whole side c (spot k v)) room
        (λ c l out. omega (arith, ap (λ t. X c * t) (on-others side c v l out h)))
        ∙ sum-cong (rows k) (λ i l. ap (λ t. X (first-row + i) * t) (on-own k file side i v l h))

    limit-own : (oven v : ℕ) → v < size k → written_limit n m oven (spot k v) ≡ (m k).limit v
    limit-own oven v h =
        elim (dec_lt v (cards k)) [
          | yes l ↦ ap (written_limit n m oven) (spot-card k v l) ∙ join.limit-card n m k file v l oven
          | no l ↦
              let back : cards k + (v - cards k) ≡ v = omega arith in
              ap (written_limit n m oven) (spot-shop k v (omega arith))
              ∙ join.limit-shop n m k file (v - cards k) (omega arith) oven
              ∙ ap (m k).limit back
        ]

    --------------------------------------------------------------------------------
    -- An oven that is never full

    module _ (oven : ℕ) (wide : N ≤ oven) where
      abbrev written : ℕ → ℕ
      written = written_limit n m oven

      module _ (side : ℕ) where
        into : (X : ℕ → ℕ) → FitsSide whole written side X → FitsSide (m k).net (m k).limit side (λ i. X (first-row + i))
        into X fit v h = omega (arith, load-own side X v h, limit-own oven v h, fit (spot k v) (spot-inside k file v h).0)

        -- each row counts at most once in a group
        all-rows : (X : ℕ → ℕ) → Selection N X → (w : ℕ) → load N (on_side whole side) X w ≤ N
        unfolding load on_side
        all-rows X bits w =
            omega (
              arith,
              sum_bound N 1 {f = λ c. X c * chain G up (node whole side c) w}
                  (λ c l.
                  mul-le-mul {n₁ = X c} {m₁ = chain G up (node whole side c) w} {n₂ = 1} {m₂ = 1} (bits c l)
                  (chain-small G up down (node whole side c) w)),
            )

        module _ (X B : ℕ → ℕ) (hx : Selection N X) (hb : Selection (rows k) B) where
          abbrev Y : ℕ → ℕ
          Y = splice first-row (rows k) B X

          -- a group of the file counts as in the file
          load-spliced : (v : ℕ) → v < size k → load N (on_side whole side) Y (spot k v) ≡ load (rows k) (on_side (m k).net side) B v
          load-spliced v h =
              load-own side Y v h
              ∙ load-cong (rows k) (on_side (m k).net side) (λ i. Y (first-row + i)) B (splice_at first-row (rows k) B X) v

          -- any other group but the oven counts what it did
          load-left :
              (w : ℕ) → w ≢ oven-at → ((v : ℕ) → v < size k → spot k v ≢ w) →
              load N (on_side whole side) Y w ≡ load N (on_side whole side) X w
          unfolding load
          load-left w e none =
              omega (
                arith,
                splice-sum first-row (rows k) B X N room (λ c. on_side whole side c w),
                sum-cong (rows k) {f = λ i. B i * on_side whole side (first-row + i) w} {g = λ i. 0}
                    (λ i h. omega (arith, ap (λ t. B i * t) (on-else k file side i w h e none))),
                sum-cong (rows k) {f = λ i. X (first-row + i) * on_side whole side (first-row + i) w} {g = λ i. 0}
                    (λ i h. omega (arith, ap (λ t. X (first-row + i) * t) (on-else k file side i w h e none))),
              )

          swap : FitsSide whole written side X → FitsSide (m k).net (m k).limit side B → FitsSide whole written side Y
          swap fit own w l =
              elim
              (find (size k) (λ v. spot k v ≡ w) (λ v. spot k v ≢ w)
              (λ v h. elim (ℕ_discrete (spot k v) w) [ yes e ↦ inl e | no e ↦ inr e ])) [
                | inl q ↦ rw (← q.2) (omega (arith, load-spliced q.0 q.1, limit-own oven q.0 q.1, own q.0 q.1))
                | inr none ↦
                    elim (ℕ_discrete w oven-at) [
                      | yes e ↦
                          omega (
                            arith,
                            all-rows Y (splice-bit first-row (rows k) B X N hb hx) w,
                            ap written e,
                            join.limit-oven n m oven,
                          )
                      | no e ↦ omega (arith, fit w l, load-left w e none)
                    ]
              ]

      module _ (K : ℕ) (kinds : (j : ℕ) → j < n → (c : ℕ) → c < rows j → (m j).kind c < K) where
        abbrev kind : ℕ → ℕ
        kind = (joined n m oven).kind

        all_kinds : (c : ℕ) → c < N → kind c < K
        all_kinds =
            each_part rows n (λ c. kind c < K)
            (λ j h c l. omega (arith, join.row-kind n m j h c l oven, kinds j h c l))

        -- the best choice by the limits as they are written, which is the same
        abbrev choice : List ℕ
        choice = best_choice whole written K kind

        -- "each counter keeps exactly what it would keep alone"
        pub alone :
            Agree (rows k)
            (λ c. row (best_choice whole (joined n m oven).limit K kind) (first-row + c))
            (row (best_choice (m k).net (m k).limit K (m k).kind))
        alone c h =
            ap (λ (X : List ℕ). row X (first-row + c))
            (sym (lists-choice (lowered-lists whole (join.joined-formed n m formed) written kind) K all_kinds))
            ∙ choice-only (m k).net (m k).limit K (m k).kind (kinds k file)
            (part-best N K kind (FitsBoth whole written) first-row (rows k) room (m k).kind (FitsBoth (m k).net (m k).limit)
            (λ i l. join.row-kind n m k file i l oven)
            (λ X s fit. (into 0 X fit.0, into 1 X fit.1))
            (λ X B s t fit own. (swap 0 X B s t fit.0 own.0, swap 1 X B s t fit.1 own.1))
            (row choice) (choice-is whole written K kind all_kinds))
            c h
