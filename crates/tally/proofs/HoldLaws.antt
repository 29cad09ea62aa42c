-- Laws of a tally that holds rows: the ways up from a row's two nodes are the groups that the row counts in.
--   placed                 the state with other counts, and a row in or out
--   count-is in_is         the count of a group, and whether a row is in
--   full-unfit             where one of a row's ways is full, the row does not fit beside the rows that are in
--   places-fit             where both have places, it does
--   moved_holds            what the tally holds once a row is counted in or out
--   in-holds out-holds     so with a row put in, and with a row taken out
use mathlib.Core.Path.{◌≡◌, refl, sym, ap, ap₂, ◌∙◌, subst}
use mathlib.Core.Bool.{Bool, true, false}
use mathlib.Core.Logic.{inl, inr, ◌≢◌}
use mathlib.Core.List.{List}
use Prim.Native.Nat.{ℕ, zero, suc, ◌+◌, ◌<◌, ◌≤◌}
use native.Mathlib.Decide.{ℕ_discrete, dec_lt}
use native.Mathlib.Omega.{arith}
use lib.ListN.{get_or, set, length-set}
use borrow.Author.Tests.{lt-ltb, le-ltb}
use Rattle.theory.specs.Forest.{Down, chain}
use Rattle.theory.specs.Incidence.{Within, plus}
use Rattle.theory.specs.Level.{count}
use Rattle.theory.specs.Network.{Network, Instance, node, on_both, on_side, FitsSide, FitsBoth, fits_both, Choice}
use Rattle.theory.proofs.SumLaws.{same_self, same-ne}
use Rattle.theory.proofs.ForestLaws.{chain-small}
use Rattle.theory.proofs.IncidenceLaws.{load-plus, plus-out, plus-bits, fits_le, fits-plus, full-plus}
use Rattle.theory.proofs.NetworkLaws.{formed-down, row-only, chain-both, fits_both_lem, both-fits}
use Rattle.theory.proofs.EmbedLaws.{Part, Stands, part-chain, part-other}
use Rattle.theory.proofs.TestLaws.{either, both_true}
use Rattle.exchange.specs.Exchange.{minus, In}
use Rattle.exchange.proofs.TightLaws.{minus_is}
use Rattle.exchange.proofs.WayLaws.{minus-bits, load-minus}
use Rattle.tally.specs.declared.State.{State}
use Rattle.tally.specs.declared.Tally.{Tally}
use Rattle.tally.specs.Cells.{up_to, to_cell}
use Rattle.tally.specs.Walks.{above_in, up_in, limit_in, node_in, HasPlaces, stepped, CountedRow}
use Rattle.tally.specs.Tally.{tally, Holds}
use Rattle.tally.proofs.WalkLaws.{at_set, in-down, up_small}
use Rattle.tally.proofs.CellLaws.{up-to-in, up-to-past, up-to-cong, cell-parent, cell-limit, cell-node, to-group, to-root}
use Rattle.tally.proofs.CellLaws.{stands-cell}

-- the state with other counts, and row c in or out
abbrev pub placed : State → List ℕ → ℕ → ℕ → State
placed st k c x = record {
  cards = st.cards;
  shops = st.shops;
  rows = st.rows;
  counts = k;
  selection = set st.selection c x;
}

module _ (i : Instance) (t : Tally) (X : ℕ → ℕ) (H : Holds i t X) where
  abbrev d : Network
  d = i.net

  abbrev tb : List ℕ
  tb = t.tables

  down : Down d.groups d.parent
  down = formed-down d H.formed

  parent-cell : (v : ℕ) → v < d.groups → get_or tb v 0 ≡ to_cell d.groups (d.parent v)
  parent-cell v h =
      H.tables v (omega (arith, H.groups_most))
      ∙ cell-parent i v (omega (arith, H.groups_most))
      ∙ up-to-in d.groups (λ w. to_cell d.groups (d.parent w)) v h

  limit-cell : (v : ℕ) → v < d.groups → limit_in tb v ≡ i.limit v
  limit-cell v h =
      H.tables (512 + v) (omega (arith, H.groups_most))
      ∙ cell-limit i v (omega (arith, H.groups_most))
      ∙ up-to-in d.groups i.limit v h

  pub count-is : (v : ℕ) → v < d.groups → get_or t.state.counts v 0 ≡ count d X v
  count-is v h = H.counts v (omega (arith, H.groups_most)) ∙ up-to-in d.groups (count d X) v h

  -- the groups are the first of the 512 nodes
  part-of : Part d.groups d.parent 512 (above_in tb) 0
  part-of = record {
    down = down;
    whole = in-down tb;
    room = omega (arith, H.groups_most);
    up = λ v h.
        let here : 0 + v ≡ v = omega arith in
        elim (down v h) [
          | inl small ↦
              let is = parent-cell v h ∙ to-group d.groups (d.parent v) (omega arith) in
              let less : get_or tb v 0 < v = omega (arith, is) in
              inl (omega arith, ap (above_in tb) here ∙ rw (lt-ltb _ _ less) (omega (arith, is)))
          | inr large ↦
              let is = parent-cell v h ∙ to-root d.groups (d.parent v) large in
              let most : v ≤ get_or tb v 0 = omega (arith, is, H.groups_most) in
              let root : above_in tb v ≡ 512 = rw (le-ltb _ _ most) in
              inr (large, omega (arith, ap (above_in tb) here, root))
        ];
  }

  module _ (c : ℕ) (h : c < d.rows) where
    row-few : c < 512
    row-few = omega (arith, H.rows_most)

    pub in_is : get_or t.state.selection c 0 ≡ X c
    in_is = H.selection c row-few ∙ up-to-in d.rows X c h

    -- a row counts in no group twice
    once : (v : ℕ) → on_both d c v ≤ 1
    once v =
        elim (dec_lt v d.cards) [
          | yes k ↦
              omega (
                arith,
                chain-both d c v,
                row-only d H.formed 1 c h v k,
                chain-small d.groups d.parent down (d.card c) v,
              )
          | no k ↦
              omega (
                arith,
                chain-both d c v,
                row-only d H.formed 0 c h v (omega arith),
                chain-small d.groups d.parent down (d.shop c) v,
              )
        ]

    ------------------------------------------------------------------------------
    -- The ways up from the row's nodes

    abbrev up : ℕ → ℕ → ℕ
    up side v = up_in tb (node_in tb side c) v

    stands : (side : ℕ) → side < 2 → Stands d.groups 512 0 (node d side c) (node_in tb side c)
    stands side s =
        subst (Stands d.groups 512 0 (node d side c)) (sym (cell-node i tb H.tables side s c row-few h))
        (stands-cell d.groups (node d side c))

    up-chain : (side : ℕ) → side < 2 → (v : ℕ) → v < d.groups → up side v ≡ chain d.groups d.parent (node d side c) v
    up-chain side s v k =
        let here : v ≡ 0 + v = omega arith in
        ap (up side) here
        ∙ part-chain d.groups d.parent 512 (above_in tb) 0 part-of v k (node d side c) (node_in tb side c) (stands side s)

    -- they lead through groups alone
    up-past : (side : ℕ) → side < 2 → (v : ℕ) → d.groups ≤ v → up side v ≡ 0
    up-past side s v k =
        part-other d.groups d.parent 512 (above_in tb) 0 part-of v (inr (omega arith)) (node d side c) (node_in tb side c)
        (stands side s)

    -- and together are what the row counts in
    ups : (v : ℕ) → v < d.groups → up 0 v + up 1 v ≡ on_both d c v
    ups v k = ap₂ ◌+◌ (up-chain 0 (omega arith) v k) (up-chain 1 (omega arith) v k) ∙ sym (chain-both d c v)

    on-up : (side : ℕ) → side < 2 → (v : ℕ) → up side v ≡ 1 → (v < d.groups) × (on_both d c v ≡ 1)
    on-up side s v one = (inside, counts side s one)
      where
        inside : v < d.groups
        inside =
            elim (dec_lt v d.groups) [
              | yes k ↦ k
              | no k ↦ absurd (omega (arith, up-past side s v (omega arith)))
            ]

        counts : (side : ℕ) → side < 2 → up side v ≡ 1 → on_both d c v ≡ 1
        counts zero s one = omega (arith, ups v inside, once v)
        counts (suc zero) s one = omega (arith, ups v inside, once v)
        counts (suc (suc side)) s one = absurd (omega arith)

    -- a group that the row counts in is on one of the ways
    side-of : (v : ℕ) → v < d.groups → on_both d c v ≡ 1 → (side : ℕ) × (side < 2) × (up side v ≡ 1)
    side-of v k one =
        elim (ℕ_discrete (up 0 v) 1) [
          | yes e ↦ (0, omega arith, e)
          | no e ↦ (1, omega arith, omega (arith, ups v k, up_small tb (node_in tb 0 c) v))
        ]

    ------------------------------------------------------------------------------
    -- Places

    module _ (out : X c ≡ 0) where
      pub full-unfit : HasPlaces tb t.state.counts c false → fits_both d i.limit (plus X c) ≡ false
      full-unfit P =
          let way = P.full refl in
          let full = way.2.full refl in
          let v = full.0 in
          let on = on-up way.0 way.1 v full.2 in
          elim (either (fits_both d i.limit (plus X c))) [
            | inl e ↦
                absurd
                (full-plus X c d.rows d.groups (on_both d) i.limit h out v on.0 on.1
                (omega (arith, full.3, limit-cell v on.0, count-is v on.0))
                (fits_both_lem d i.limit (plus X c) H.formed (both_true d i.limit (plus X c) e)))
            | inr e ↦ e
          ]

      module _ (P : HasPlaces tb t.state.counts c true) where
        room : (v : ℕ) → v < d.groups → on_both d c v ≡ 1 → (count d X v < i.limit v) × (i.limit v ≤ 65535)
        room v k one =
            let way = side-of v k one in
            let place = (P.places refl way.0 way.1).places refl v way.2 in
            (omega (arith, place.0, limit-cell v k, count-is v k), omega (arith, place.1, limit-cell v k))

        pub places-fit : FitsBoth d i.limit (plus X c)
        places-fit =
            both-fits d i.limit (plus X c)
            (fits-plus X c d.rows d.groups (on_both d) i.limit h out
            (fits_both_lem d i.limit X H.formed H.choice.fits) once (λ v k one. (room v k one).0))

    ------------------------------------------------------------------------------
    -- The row counted in or out

    module _ (more : Bool) (k' : List ℕ) (C : CountedRow more tb t.state.counts k' c) where
      abbrev k : List ℕ
      k = t.state.counts

      counted-on : (v : ℕ) → v < d.groups → on_both d c v ≡ 1 → get_or k' v 0 ≡ stepped more (get_or k v 0)
      counted-on v j one =
          elim (ℕ_discrete (up 0 v) 1) [
            | yes e ↦ C.shop.off v (omega (arith, ups v j)) ∙ C.card.on (omega (arith, H.long_counts)) v e
            | no e ↦
                let none : up 0 v ≡ 0 = omega (arith, up_small tb (node_in tb 0 c) v) in
                C.shop.on (omega (arith, C.card.long, H.long_counts)) v (omega (arith, ups v j))
                ∙ ap (stepped more) (C.card.off v none)
          ]

      counted-off : (v : ℕ) → up 0 v + up 1 v ≡ 0 → get_or k' v 0 ≡ get_or k v 0
      counted-off v none = C.shop.off v (omega arith) ∙ C.card.off v (omega arith)

      module _ (x : ℕ) (Y : ℕ → ℕ) (own : Y c ≡ x) (others : (j : ℕ) → c ≢ j → Y j ≡ X j)
          (counts : (v : ℕ) → v < d.groups → on_both d c v ≡ 1 → count d Y v ≡ stepped more (count d X v))
          (rest : (v : ℕ) → v < d.groups → on_both d c v ≡ 0 → count d Y v ≡ count d X v)
          (choice : Choice d i.limit Y)
        where
          new-count : (v : ℕ) → v < 512 → get_or k' v 0 ≡ up_to d.groups (count d Y) v
          new-count v low =
              elim (dec_lt v d.groups) [
                | yes j ↦
                    elim (ℕ_discrete (on_both d c v) 1) [
                      | yes one ↦
                          counted-on v j one
                          ∙ ap (stepped more) (count-is v j)
                          ∙ sym (up-to-in d.groups (count d Y) v j ∙ counts v j one)
                      | no e ↦
                          let none : on_both d c v ≡ 0 = omega (arith, once v) in
                          counted-off v (omega (arith, ups v j))
                          ∙ count-is v j
                          ∙ sym (up-to-in d.groups (count d Y) v j ∙ rest v j none)
                    ]
                | no j ↦
                    let past : d.groups ≤ v = omega arith in
                    counted-off v (omega (arith, up-past 0 (omega arith) v past, up-past 1 (omega arith) v past))
                    ∙ H.counts v low
                    ∙ up-to-past d.groups (count d X) v past
                    ∙ sym (up-to-past d.groups (count d Y) v past)
              ]

          moved_holds : Holds i (tally tb (placed t.state k' c x)) Y
          moved_holds = record {
            formed = H.formed;
            groups_most = H.groups_most;
            rows_most = H.rows_most;
            cards = H.cards;
            shops = H.shops;
            rows = H.rows;
            tables = H.tables;
            long_counts = C.shop.long ∙ C.card.long ∙ H.long_counts;
            long_selection = length-set t.state.selection c x ∙ H.long_selection;
            selection = λ j low.
                elim (at_set t.state.selection c x j (omega (arith, H.long_selection, row-few))) [
                  | inl q ↦
                      q.1 ∙ sym (ap (up_to d.rows Y) q.0 ∙ up-to-in d.rows Y c h ∙ own)
                  | inr q ↦
                      q.1
                      ∙ H.selection j low
                      ∙ up-to-cong d.rows X Y j (λ r. sym (others j (λ e. q.0 (sym e))))
                ];
            counts = new-count;
            choice = choice;
          }

    module _ (k' : List ℕ) where
      pub in-holds :
          X c ≡ 0 → HasPlaces tb t.state.counts c true → CountedRow true tb t.state.counts k' c →
          Holds i (tally tb (placed t.state k' c 1)) (plus X c)
      in-holds out P C =
          moved_holds true k' C 1 (plus X c)
          (omega (arith, plus-out X c out c, same_self c))
          (λ j e. omega (arith, plus-out X c out j, same-ne c j e))
          (λ v j one. omega (arith, load-plus X c d.rows (on_both d) h out v, room out P v j one))
          (λ v j none. omega (arith, load-plus X c d.rows (on_both d) h out v))
          (record { bits = plus-bits X c d.rows H.choice.bits; fits = places-fit out P })

      pub out-holds :
          X c ≡ 1 → CountedRow false tb t.state.counts k' c → Holds i (tally tb (placed t.state k' c 0)) (minus X c)
      out-holds one C =
          moved_holds false k' C 0 (minus X c)
          (omega (arith, minus_is X c c, same_self c))
          (λ j e. omega (arith, minus_is X c j, same-ne c j e))
          (λ v j on. omega (arith, fewer v))
          (λ v j none. omega (arith, fewer v))
          (record {
            bits = minus-bits d.rows X H.choice.bits c was;
            fits = (less 0 H.choice.fits.0, less 1 H.choice.fits.1);
          })
        where
          was : In d.rows X c
          was = record { row = h; kept = one }

          fewer : (v : ℕ) → count d (minus X c) v + on_both d c v ≡ count d X v
          fewer = load-minus d.rows X H.choice.bits c was (on_both d)

          within : Within d.rows (minus X c) X
          within j r = omega (arith, minus_is X c j)

          less : (side : ℕ) → FitsSide d i.limit side X → FitsSide d i.limit side (minus X c)
          less side = fits_le d.rows (on_side d side) d.groups i.limit (minus X c) X within
