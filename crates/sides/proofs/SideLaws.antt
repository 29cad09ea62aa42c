-- Laws of a side of a file: its groups are a part of the network of both sides.
--   hangs-shop hangs-card  where a row hangs on a side, by its claim
--   side-node              rows hang at groups of the side, or at its root
--   sound-matroid          the lists of rows that fit a side of a sound file are the independent sets of a matroid
--   file-matroid           the same of an accepted file
--   group-node node-group  what fits limits of the side's groups fits limits of the nodes that agree with them
--   side-fits fits-side side-rank      what fits the written limits of the side's groups fits the side, and a rank there is a rank on the
--                          side
--   on-own on-other both-on both-load  a row counts in a group by the side of that group, and so do many
use mathlib.Core.Path.{◌≡◌, refl, sym, ap, ◌∙◌}
use mathlib.Core.List.{List}
use mathlib.Core.Logic.{◌⊎◌, inl, inr, ◌≢◌}
use Prim.Native.Nat.{ℕ, zero, suc, ◌+◌, ◌*◌, ◌≤◌, ◌<◌}
use native.Mathlib.Nat.{le_refl, zero-add}
use native.Mathlib.Decide.{ℕ_discrete, dec_lt}
use native.Mathlib.Omega.{arith}
use lib.Dec.{eqb}
use borrow.Author.Tests.{lt-ltb, le-ltb}
use Rattle.theory.specs.Sum.{pick}
use Rattle.theory.specs.Incidence.{Selection, load}
use Rattle.theory.specs.Network.{node, on_side, on_both, FitsSide, Independent}
use Rattle.theory.specs.Matroid.{Matroid, Rank}
use Rattle.theory.proofs.NetworkLaws.{formed-down}
use Rattle.theory.proofs.MatroidLaws.{side-matroid}
use Rattle.theory.proofs.SumLaws.{sum-cong}
use Rattle.theory.proofs.EmbedLaws.{Stands, Part, Hanging, part-chain, part-other, part-fits, fits-part, part-rank}
use Rattle.claimfile.specs.Day.{count_of, group_of, claim_of, named_card, kind_of, card_by, card_under, groups_of, first_of}
use Rattle.claimfile.specs.Day.{parent_of, written_of, limit_of, network_of}
use Rattle.claimfile.specs.Sound.{Sound}
use Rattle.reader.specs.Reading.{reading}
use Rattle.claimfile.specs.declared.Form.{Form}
use Rattle.claimfile.specs.declared.Layout.{Layout}
use Rattle.claimfile.specs.declared.Claim.{Claim}
use Rattle.reader.proofs.AcceptedLaws.{accepted-sound}
use Rattle.claimfile.proofs.DayLaws.{side-room, root-past, parent-on, written_on, card-ordinary, card-earned, card-node, shop-node}
use Rattle.claimfile.proofs.DayLaws.{sound-formed}
use Rattle.reader.proofs.StoredLaws.{stored-fits, fits-stored, stored-rank}
use Rattle.sides.specs.Side.{parent_in, limit_in, hangs, counts_in, FitsBy, FitsIn}
use Rattle.sides.proofs.ParentLaws.{parent_above, side-rooted, side-down}
use Rattle.std.specs.Prelude.{Ok}

-- a row of a file with its claim
module _ (s : List ℕ) (l : Layout) (c : ℕ) (claim : Claim) (is : claim ≡ claim_of s l c) where
  pub hangs-shop : (side : ℕ) → side ≢ 0 → claim.shop ≡ hangs s l side c
  hangs-shop zero n = absurd (n refl)
  hangs-shop (suc side) n = ap (λ (q : Claim). q.shop) is

  pub hangs-card : (side : ℕ) → side ≡ 0 → card_under s l l.cards claim ≡ hangs s l side c
  hangs-card zero e =
      ap (λ (x : ℕ). pick (eqb claim.kind 0) claim.card x)
      (parent_above l.cards (group_of s l 0 claim.card).parent claim.card)
      ∙ ap (card_by (parent_in s l 0)) is
  hangs-card (suc side) e = absurd (omega arith)

pub side-node : (s : List ℕ) (l : Layout) → Sound s l → (side c : ℕ) → c < l.rows → hangs s l side c ≤ count_of l side
side-node s l sound zero c h =
    elim (ℕ_discrete (kind_of s l c) 0) [
      | yes e ↦ omega (arith, card-ordinary (parent_in s l 0) (claim_of s l c) e, sound.row_cards c h)
      | no n ↦
          let lifted = card-earned (parent_in s l 0) (claim_of s l c) n in
          elim (side-rooted s l 0 (named_card s l c) (sound.row_cards c h)) [
            | inl q ↦ omega (arith, lifted, q, sound.row_cards c h)
            | inr q ↦ omega (arith, lifted, q)
          ]
    ]
side-node s l sound (suc n) c h = omega (arith, sound.row_shops c h)

module _ (s : List ℕ) (l : Layout) (sound : Sound s l) where
  pub sound-matroid : (side : ℕ) → Matroid l.rows (Independent (network_of s l) (limit_of s l) side)
  sound-matroid = side-matroid (network_of s l) (sound-formed s l sound) (limit_of s l)

  module _ (side : ℕ) where
    -- a smaller parent is a group of the side, any other stands for the root
    stands :
        (g : ℕ) → g < count_of l side →
        Stands (count_of l side) (groups_of l) (first_of l side) (parent_in s l side g) (parent_of s l (first_of l side + g))
    stands g m =
        elim (dec_lt (group_of s l side g).parent g) [
          | yes h ↦ rw (parent-on s l side g m, lt-ltb _ _ h) (inl (omega arith, refl))
          | no h ↦
              let large : g ≤ (group_of s l side g).parent = omega arith in
              rw (parent-on s l side g m, le-ltb _ _ large) (inr (le_refl (count_of l side), root-past l side))
        ]

    abbrev part : Part (count_of l side) (parent_in s l side) (groups_of l) (parent_of s l) (first_of l side)
    part =
        record {
          down = side-down s l side;
          whole = formed-down (network_of s l) (sound-formed s l sound);
          room = side-room l side;
          up = stands;
        }

  -- a row hangs at a group of the side, or above one
  row-stands :
      (side c : ℕ) → c < l.rows →
      Stands (count_of l side) (groups_of l) (first_of l side) (hangs s l side c) (node (network_of s l) side c)
  row-stands zero c h =
      rw (card-node s l c)
      (elim (ℕ_discrete (kind_of s l c) 0) [
        | yes e ↦
            rw (card-ordinary (parent_in s l 0) (claim_of s l c) e, card-ordinary (parent_of s l) (claim_of s l c) e)
            (inl (sound.row_cards c h, sym (zero-add (named_card s l c))))
        | no n ↦
            rw (card-earned (parent_in s l 0) (claim_of s l c) n, card-earned (parent_of s l) (claim_of s l c) n)
            (rw zero-add at (stands 0 (named_card s l c) (sound.row_cards c h)))
      ])
  row-stands (suc n) c h = inl (sound.row_shops c h, shop-node s l c)

  module _ (side : ℕ) where
    -- limits of the side's groups and limits of the nodes that agree
    module _ (limit cap : ℕ → ℕ) (agree : (g : ℕ) → g < count_of l side → cap (first_of l side + g) ≡ limit g) where
      side-hanging :
          Hanging l.rows (count_of l side) (parent_in s l side) limit (hangs s l side) (groups_of l) (parent_of s l) cap
          (node (network_of s l) side) (first_of l side)
      side-hanging = record { part = part side; rows = row-stands side; limits = agree }

      pub group-node : (X : ℕ → ℕ) → FitsBy s l side limit X → FitsSide (network_of s l) cap side X
      unfolding on_side
      group-node =
          part-fits l.rows (count_of l side) (parent_in s l side) limit (hangs s l side) (groups_of l)
          (parent_of s l) cap (node (network_of s l) side) (first_of l side) side-hanging

      pub node-group : (X : ℕ → ℕ) → FitsSide (network_of s l) cap side X → FitsBy s l side limit X
      unfolding on_side
      node-group =
          fits-part l.rows (count_of l side) (parent_in s l side) limit (hangs s l side) (groups_of l)
          (parent_of s l) cap (node (network_of s l) side) (first_of l side) side-hanging

      group-rank :
          (X : ℕ → ℕ) (n : ℕ) → Rank l.rows (λ Y. Selection l.rows Y × FitsBy s l side limit Y) X n →
          Rank l.rows (Independent (network_of s l) cap side) X n
      unfolding on_side
      group-rank =
          part-rank l.rows (count_of l side) (parent_in s l side) limit (hangs s l side) (groups_of l)
          (parent_of s l) cap (node (network_of s l) side) (first_of l side) side-hanging

    -- by the written limits of its groups, and so by the limits of the file
    module _ (X : ℕ → ℕ) where
      pub side-fits : FitsIn s l side X → FitsSide (network_of s l) (limit_of s l) side X
      side-fits f = stored-fits s l sound side X (group-node (limit_in s l side) (written_of s l) (written_on s l side) X f)

      pub fits-side : FitsSide (network_of s l) (limit_of s l) side X → FitsIn s l side X
      fits-side f = node-group (limit_in s l side) (written_of s l) (written_on s l side) X (fits-stored s l sound side X f)

      pub side-rank :
          (n : ℕ) → Rank l.rows (λ Y. Selection l.rows Y × FitsIn s l side Y) X n →
          Rank l.rows (Independent (network_of s l) (limit_of s l) side) X n
      side-rank n r =
          (stored-rank s l sound side X n).0 (group-rank (limit_in s l side) (written_of s l) (written_on s l side) X n r)

  module _ (c : ℕ) (row : c < l.rows) where
    -- by its node on a side a row counts in the groups of that side alone
    on-own : (side g : ℕ) → g < count_of l side → on_side (network_of s l) side c (first_of l side + g) ≡ counts_in s l side c g
    unfolding on_side
    on-own side g m =
        part-chain (count_of l side) (parent_in s l side) (groups_of l) (parent_of s l) (first_of l side) (part side) g m
        (hangs s l side c) (node (network_of s l) side c) (row-stands side c row)

    on-other :
        (side v : ℕ) → (v < first_of l side) ⊎ (first_of l side + count_of l side ≤ v) → on_side (network_of s l) side c v ≡ 0
    unfolding on_side
    on-other side v apart =
        part-other (count_of l side) (parent_in s l side) (groups_of l) (parent_of s l) (first_of l side) (part side) v
        apart (hangs s l side c) (node (network_of s l) side c) (row-stands side c row)

    pub both-on :
        (side g : ℕ) → g < count_of l side → on_both (network_of s l) c (first_of l side + g) ≡ counts_in s l side c g
    unfolding on_both
    both-on zero g m = omega (arith, on-own 0 g m, on-other 1 (0 + g) (inl (omega arith)))
    both-on (suc n) g m = omega (arith, on-own 1 g m, on-other 0 (l.cards + g) (inr (omega arith)))

  pub both-load :
      (X : ℕ → ℕ) (side g : ℕ) → g < count_of l side →
      load l.rows (on_both (network_of s l)) X (first_of l side + g) ≡ load l.rows (counts_in s l side) X g
  unfolding load
  both-load X side g m = sum-cong l.rows (λ c h. ap (λ x. X c * x) (both-on c h side g m))

-- demand 2: the lists of rows that fit a side of an accepted file are the independent sets of a matroid
pub file-matroid :
    (f : Form) (s : List ℕ) (l : Layout) → reading f s ≡ Ok l → (side : ℕ) →
    Matroid l.rows (Independent (network_of s l) (limit_of s l) side)
file-matroid f s l e = sound-matroid s l (accepted-sound f s l e)
