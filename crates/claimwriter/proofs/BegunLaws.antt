-- Laws of a file that is being written: the counts are put first, then the records, in any order.
--   room-kept              a buffer that has room for the file keeps it
--   length-for             the length, by the layout or by the contents
--   begun-counts           the counts are put
--   begun-group begun-claim    one record is put: each record that is asked for now is this one, or was asked for before
--   begun-less             less is asked for
--   begun-here begun-then  the same over the buffer as it is now; and more is written then
-- Once all records are put, `written-cells` (proofs/WrittenLaws.antt) says that the buffer starts with the file.
use mathlib.Core.Bool.{true}
use mathlib.Core.Path.{◌≡◌, refl, sym, ap, ap₂, ◌∙◌, subst}
use mathlib.Core.Logic.{◌⊎◌, inl, inr, ◌≢◌}
use mathlib.Core.List.{List}
use Prim.Native.Nat.{ℕ, zero, suc, ◌+◌, ◌*◌, ◌≤◌, ◌<◌}
use native.Mathlib.Decide.{ℕ_discrete, dec_lt}
use native.Mathlib.Omega.{arith}
use lib.ListN.{length, get_or}
use Rattle.claimfile.specs.File.{group_width, claim_width}
use Rattle.claimwriter.specs.Written.{WeekGroup, Contents, records_on, bytes_of, group_bytes, claim_bytes}
use Rattle.claimwriter.specs.Written.{length_for, layout_of, length_of, TwoSided, SameGroup}
use Rattle.claimwriter.specs.Put.{Holds, Put, count_place, row_count_place, group_place, claim_place, Room, CountsPut, Begun}
use Rattle.claimfile.specs.declared.Layout.{Layout}
use Rattle.claimfile.specs.declared.Claim.{Claim}
use Rattle.claimwriter.proofs.PutLaws.{same-cell, group-length, group-same, Apart, put_holds, put-past}

pub room-kept : {l : Layout} {s t : List ℕ} → Room l s → length t ≡ length s → Room l t
room-kept room e = record { laid = room.laid; long = omega (arith, room.long) }

module _ (d : Contents) where
  abbrev l : Layout
  l = layout_of d

  -- of a layout that is known by an equation
  module _ {k : Layout} (is : k ≡ layout_of d) where
    pub length-for : length_for k.cards k.shops k.rows ≡ length_of d
    length-for = ap (λ (x : Layout). length_for x.cards x.shops x.rows) is

  --------------------------------------------------------------------------------
  -- The parts of the file do not overlap

  count-apart :
      (x side g : ℕ) → g < records_on d side → Apart (count_place l x) 2 (group_place l side g) (group_width true)
  count-apart zero zero g h = inl (omega arith)
  count-apart zero (suc n) g h = inl (omega arith)
  count-apart (suc m) zero g h = inr (omega arith)
  count-apart (suc m) (suc n) g h = inl (omega arith)

  groups-before : (side g : ℕ) → g < records_on d side → group_place l side g + group_width true ≤ row_count_place l
  groups-before zero g h = omega arith
  groups-before (suc n) g h = omega arith

  counts-before : (side : ℕ) → count_place l side + 2 ≤ row_count_place l
  counts-before zero = omega arith
  counts-before (suc n) = omega arith

  records-apart :
      (start h g : ℕ) → h ≢ g → Apart (start + group_width true * h) (group_width true) (start + group_width true * g) (group_width true)
  records-apart start h g other =
      elim (dec_lt h g) [
        | yes before ↦ inl (omega arith)
        | no behind ↦ inr (omega (arith, other))
      ]

  -- two group records are one, or do not overlap
  group-apart :
      TwoSided d → (x h side g : ℕ) → h < records_on d x → g < records_on d side →
      ((group_place l x h ≡ group_place l side g) × (d.group x h ≡ d.group side g))
      ⊎ Apart (group_place l x h) (group_width true) (group_place l side g) (group_width true)
  group-apart sides zero h zero g p q =
      elim (ℕ_discrete h g) [
        | yes e ↦ inl (ap (group_place l 0) e, ap (d.group 0) e)
        | no other ↦ inr (records-apart l.card_at h g other)
      ]
  group-apart sides zero h (suc n) g p q = inr (inl (omega arith))
  group-apart sides (suc m) h zero g p q = inr (inr (omega arith))
  group-apart sides (suc m) h (suc n) g p q =
      elim (ℕ_discrete h g) [
        | yes e ↦ inl (ap (group_place l 1) e, sides m h ∙ ap (d.group 1) e ∙ sym (sides n g))
        | no other ↦ inr (records-apart l.shop_at h g other)
      ]

  claim-apart : (c k : ℕ) → c ≢ k → Apart (claim_place l c) claim_width (claim_place l k) claim_width
  claim-apart c k other =
      elim (dec_lt c k) [
        | yes before ↦ inl (omega arith)
        | no behind ↦ inr (omega (arith, other))
      ]

  --------------------------------------------------------------------------------
  -- The counts

  counts-begun : {s t : List ℕ} → CountsPut l s t → Begun d (λ side g. ⊥) (λ c. ⊥) s t
  counts-begun {s} {t} put =
      record {
        long = put.rows.long ∙ put.shops.long ∙ put.cards.long;
        counts = counts;
        row_count = put.rows.cells;
        groups = λ side g h none. absurd none;
        claims = λ c h none. absurd none;
        rest =
            put-past put.two t (row_count_place l) (bytes_of d.rows) put.rows (length_of d) (omega arith)
            ∙ put-past put.one put.two (count_place l 1) (bytes_of d.shops) put.shops (length_of d) (omega arith)
            ∙ put-past s put.one 0 (bytes_of d.cards) put.cards (length_of d) (omega arith);
      }
    where
      kept : (side : ℕ) → Holds put.two (count_place l side) (bytes_of (records_on d side)) →
          Holds t (count_place l side) (bytes_of (records_on d side))
      kept side =
          put_holds put.two t (row_count_place l) (bytes_of d.rows) put.rows (count_place l side)
          (bytes_of (records_on d side)) (inl (counts-before side))

      counts : (side : ℕ) → Holds t (count_place l side) (bytes_of (records_on d side))
      counts zero =
          kept 0
          (put_holds put.one put.two (count_place l 1) (bytes_of d.shops) put.shops 0 (bytes_of d.cards)
          (inl (omega arith)) put.cards.cells)
      counts (suc n) = kept 1 put.shops.cells

  pub begun-counts :
      {s t : List ℕ} {k : Layout} → k ≡ layout_of d → CountsPut k s t → Begun d (λ side g. ⊥) (λ c. ⊥) s t
  begun-counts {s} {t} is put = counts-begun (subst (λ (x : Layout). CountsPut x s t) is put)

  --------------------------------------------------------------------------------
  -- The records

  module _ {G : ℕ → ℕ → Type 0} {C : ℕ → Type 0} {s t : List ℕ} (b : Begun d G C s t) where
    pub begun-less :
        {G' : ℕ → ℕ → Type 0} {C' : ℕ → Type 0} → ((side g : ℕ) → g < records_on d side → G' side g → G side g) →
        ((c : ℕ) → c < d.rows → C' c → C c) → Begun d G' C' s t
    begun-less groups claims =
        record {
          long = b.long;
          counts = b.counts;
          row_count = b.row_count;
          groups = λ side g h now. b.groups side g h (groups side g h now);
          claims = λ c h now. b.claims c h (claims c h now);
          rest = b.rest;
        }

    pub begun-here : Begun d G C t t
    begun-here =
        record {
          long = refl;
          counts = b.counts;
          row_count = b.row_count;
          groups = b.groups;
          claims = b.claims;
          rest = refl;
        }

    pub begun-then :
        {G' : ℕ → ℕ → Type 0} {C' : ℕ → Type 0} {u : List ℕ} → Begun d G' C' t u → Begun d G' C' s u
    begun-then more =
        record {
          long = more.long ∙ b.long;
          counts = more.counts;
          row_count = more.row_count;
          groups = more.groups;
          claims = more.claims;
          rest = more.rest ∙ b.rest;
        }

    module _ (sides : TwoSided d) (side g : ℕ) (inside : g < records_on d side) where
      abbrev place : ℕ
      place = group_place l side g

      abbrev own : WeekGroup
      own = d.group side g

      abbrev new : List ℕ
      new = group_bytes own

      group-begun :
          {G' : ℕ → ℕ → Type 0} {u : List ℕ} →
          ((x h : ℕ) → h < records_on d x → G' x h → G x h ⊎ ((x ≡ side) × (h ≡ g))) → Put t u place new →
          Begun d G' C s u
      group-begun {u = u} more put =
          record {
            long = put.long ∙ b.long;
            counts = λ x. kept (count_place l x) (bytes_of (records_on d x)) (count-apart x side g inside) (b.counts x);
            row_count = kept (row_count_place l) (bytes_of d.rows) (inr (groups-before side g inside)) b.row_count;
            groups = λ x h m now.
                elim (more x h m now) [
                  | inl old ↦
                      elim (group-apart sides x h side g m inside) [
                        | inl e ↦ here x h e.0 e.1
                        | inr apart ↦ kept-group (group_place l x h) (d.group x h) apart (b.groups x h m old)
                      ]
                  | inr e ↦ here x h (ap₂ (group_place l) e.0 e.1) (ap₂ d.group e.0 e.1)
                ];
            claims = λ c m now.
                kept (claim_place l c) (claim_bytes (d.claim c)) (inr (omega (arith, groups-before side g inside)))
                (b.claims c m now);
            rest =
                put-past t u place new put (length_of d) (omega (arith, groups-before side g inside, group-length own)) ∙ b.rest;
          }
        where
          kept : (at : ℕ) (old : List ℕ) → Apart at (length old) place (group_width true) → Holds t at old → Holds u at old
          kept at old apart = put_holds t u place new put at old (subst (Apart at (length old) place) (sym (group-length own)) apart)

          kept-group :
              (at : ℕ) (y : WeekGroup) → Apart at (group_width true) place (group_width true) → Holds t at (group_bytes y) →
              Holds u at (group_bytes y)
          kept-group at y apart =
              kept at (group_bytes y) (subst (λ n. Apart at n place (group_width true)) (sym (group-length y)) apart)

          here :
              (x h : ℕ) → group_place l x h ≡ place → d.group x h ≡ d.group side g →
              Holds u (group_place l x h) (group_bytes (d.group x h))
          here x h at same j m =
              same-cell u (group_place l x h + j) (place + j) (ap (λ (i : ℕ). i + j) at)
              ∙ put.cells j (omega (arith, group-length own, group-length (d.group x h)))
              ∙ ap (λ (y : WeekGroup). get_or (group_bytes y) j 0) (sym same)

      pub begun-group :
          {G' : ℕ → ℕ → Type 0} {u : List ℕ} {k : Layout} {group : WeekGroup} → k ≡ layout_of d →
          SameGroup group (d.group side g) →
          ((x h : ℕ) → h < records_on d x → G' x h → G x h ⊎ ((x ≡ side) × (h ≡ g))) →
          Put t u (group_place k side g) (group_bytes group) → Begun d G' C s u
      begun-group {u = u} {group = group} is same more put =
          group-begun more
          (subst (λ (y : List ℕ). Put t u place y) (group-same group own same)
          (subst (λ (x : Layout). Put t u (group_place x side g) (group_bytes group)) is put))

    module _ (i : ℕ) (inside : i < d.rows) where
      claim-begun :
          {C' : ℕ → Type 0} {u : List ℕ} →
          ((c : ℕ) → c < d.rows → C' c → C c ⊎ (c ≡ i)) → Put t u (claim_place l i) (claim_bytes (d.claim i)) →
          Begun d G C' s u
      claim-begun {u = u} more put =
          record {
            long = put.long ∙ b.long;
            counts = λ x.
                kept (count_place l x) (bytes_of (records_on d x)) (inl (omega (arith, counts-before x))) (b.counts x);
            row_count = kept (row_count_place l) (bytes_of d.rows) (inl (omega arith)) b.row_count;
            groups = λ x h m now.
                kept (group_place l x h) (group_bytes (d.group x h)) (inl (omega (arith, groups-before x h m, group-length (d.group x h))))
                (b.groups x h m now);
            claims = λ c m now.
                elim (ℕ_discrete c i) [
                  | yes e ↦ subst (λ (x : ℕ). Holds u (claim_place l x) (claim_bytes (d.claim x))) (sym e) put.cells
                  | no other ↦
                      elim (more c m now) [
                        | inl old ↦ kept (claim_place l c) (claim_bytes (d.claim c)) (claim-apart c i other) (b.claims c m old)
                        | inr e ↦ absurd (other e)
                      ]
                ];
            rest = put-past t u (claim_place l i) (claim_bytes (d.claim i)) put (length_of d) (omega arith) ∙ b.rest;
          }
        where
          kept :
              (at : ℕ) (old : List ℕ) → Apart at (length old) (claim_place l i) claim_width → Holds t at old → Holds u at old
          kept = put_holds t u (claim_place l i) (claim_bytes (d.claim i)) put

      pub begun-claim :
          {C' : ℕ → Type 0} {u : List ℕ} {k : Layout} {claim : Claim} → k ≡ layout_of d → claim ≡ d.claim i →
          ((c : ℕ) → c < d.rows → C' c → C c ⊎ (c ≡ i)) → Put t u (claim_place k i) (claim_bytes claim) →
          Begun d G C' s u
      begun-claim {u = u} {claim = claim} is same more put =
          claim-begun more
          (subst (λ (y : Claim). Put t u (claim_place l i) (claim_bytes y)) same
          (subst (λ (x : Layout). Put t u (claim_place x i) (claim_bytes claim)) is put))
