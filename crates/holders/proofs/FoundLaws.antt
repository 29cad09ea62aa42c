-- What the labels tell are the codes.
--   labelled-codes         where each node has its label, what is read off for each row is its code
--   labels-found           so the bytes that are left are the codes
use mathlib.Core.Path.{◌≡◌, ap, subst, ◌∙◌}
use mathlib.Core.Logic.{◌⊎◌, inl, inr, ◌≢◌, ⊎_elim}
use mathlib.Core.List.{List}
use Prim.Native.Nat.{ℕ, ◌+◌, ◌≤◌, ◌<◌}
use native.Mathlib.Decide.{ℕ_discrete}
use native.Mathlib.Omega.{arith}
use lib.ListN.{length}
use Rattle.theory.specs.Sum.{same}
use Rattle.theory.specs.Network.{Network}
use Rattle.theory.specs.Level.{Counts}
use Rattle.theory.specs.Residual.{Residual}
use Rattle.theory.proofs.SumLaws.{same-eq, same-ne, same-small}
use Rattle.exchange.specs.Codes.{earned, Codes}
use Rattle.exchange.specs.Plain.{Plain}
use Rattle.exchange.proofs.ReachLaws.{Seen}
use Rattle.exchange.proofs.CodeLaws.{Marked, marked-codes}
use Rattle.exchange.proofs.CodeLaws.Marked.{ordinary-row, source_row, sink-row, rest-row}
use Rattle.scratch.specs.declared.Shape.{Shape}
use Rattle.scratch.specs.Map.{Keeps, label_of, spare_of, card_of, shop_of, weight_of, price_of, kept_of}
use Rattle.scratch.specs.View.{net_of, residual_of}
use Rattle.scratch.proofs.MapLaws.{keeps_then}
use Rattle.prices.specs.State.{Working, limit_of}
use Rattle.solver.specs.Solve.{Started}
use Rattle.prices.proofs.StateLaws.{net-keeps, weight-keeps}
use Rattle.moves.proofs.MoveLaws.{unread-labels, unread-search, unread-keeps, limits-unread}
use Rattle.labels.specs.Label.{from_source, to_sink, Reads, Coding}
use Rattle.holders.specs.Find.{Augmented, Named, BothLabelled, Found}

module _
    {sh : Shape} {ch sheet t₀ t : List ℕ} (S : BothLabelled sh ch sheet t₀ t) (zero-price : (v : ℕ) → price_of sh sheet v ≡ 0)
    (limit : ℕ → ℕ) (limits : (v : ℕ) → v < sh.groups → limit_of sh ch t v ≡ limit v) (kind : ℕ → ℕ)
    (heavy : (c : ℕ) → c < sh.rows → earned kind c ≡ 1 → weight_of sh t c ≡ sh.toll)
    (light : (c : ℕ) → c < sh.rows → earned kind c ≡ 0 → weight_of sh t c < sh.toll)
  where
    abbrev r : Residual
    r = residual_of sh sheet t

    F : ℕ → ℕ
    F v = same (label_of sh t v) from_source

    B₀ : ℕ → ℕ
    B₀ v = same (label_of sh t v) to_sink

    F-yes : (v : ℕ) → label_of sh t v ≡ from_source → 0 < F v
    unfolding F
    F-yes v e = omega (arith, same-eq (label_of sh t v) from_source e)

    F-is : (v : ℕ) → 0 < F v → label_of sh t v ≡ from_source
    unfolding F
    F-is v h =
        elim (ℕ_discrete (label_of sh t v) from_source) [ yes e ↦ e | no n ↦ absurd (omega (arith, same-ne (label_of sh t v) from_source n)) ]

    F-no : (v : ℕ) → label_of sh t v ≢ from_source → F v ≡ 0
    unfolding F
    F-no v n = same-ne (label_of sh t v) from_source n

    B-yes : (v : ℕ) → label_of sh t v ≡ to_sink → 0 < B₀ v
    unfolding B₀
    B-yes v e = omega (arith, same-eq (label_of sh t v) to_sink e)

    B-is : (v : ℕ) → 0 < B₀ v → label_of sh t v ≡ to_sink
    unfolding B₀
    B-is v h =
        elim (ℕ_discrete (label_of sh t v) to_sink) [ yes e ↦ e | no n ↦ absurd (omega (arith, same-ne (label_of sh t v) to_sink n)) ]

    B-no : (v : ℕ) → label_of sh t v ≢ to_sink → B₀ v ≡ 0
    unfolding B₀
    B-no v n = same-ne (label_of sh t v) to_sink n

    seen : Seen r (kept_of ch) (spare_of sh t) F B₀
    unfolding F B₀
    seen = record {
      from_source = λ u l h.
          let e = F-is u h in
          elim (S.sides.named u l) [
            | inl z ↦ absurd (omega arith)
            | inr w ↦ elim w [ inl p ↦ p.1 | inr p ↦ absurd (omega (arith, p.0)) ]
          ];
      to_sink = λ u l h.
          let e = B-is u h in
          elim (S.sides.named u l) [
            | inl z ↦ absurd (omega arith)
            | inr w ↦ elim w [ inl p ↦ absurd (omega (arith, p.0)) | inr p ↦ p.1 ]
          ];
      from_bits = λ u. same-small (label_of sh t u) from_source;
      to_bits = λ u. same-small (label_of sh t u) to_sink;
      source = F-yes sh.groups S.sides.source;
      sink = B-yes (sh.groups + 1) S.sides.sink;
      closed = λ e u v a h. F-yes v (S.sides.ahead e u v a (F-is u h));
      opened = λ e u v a h. B-yes u (S.sides.behind e u v a (B-is v h));
      apart = F-no (sh.groups + 1) (λ e. omega (arith, S.sides.sink));
    }

    plain : Plain r kind
    plain = record { price = zero-price; free = S.based.all; heavy = heavy; light = light }

    within : (c : ℕ) → c < sh.rows → kept_of ch c ≤ earned kind c
    within c l =
        elim (ℕ_discrete (kept_of ch c) 1) [
          | no n ↦ omega (arith, S.based.state.level.choice.bits c l)
          | yes e ↦
              elim (ℕ_discrete (earned kind c) 0) [
                | no z ↦ omega arith
                | yes z ↦ absurd (omega (arith, light c l z, S.based.state.level.kept c l e))
              ]
        ]

    counts : Counts (net_of sh t) limit (kept_of ch) (spare_of sh t)
    unfolding limit_of
    counts v l = limits v l

    marked : (c n : ℕ) → c < sh.rows → Reads sh t c n → Marked (net_of sh t) kind F B₀ c n
    marked c n l R =
        elim (ℕ_discrete (earned kind c) 1) [
          | no o ↦
              let z : earned kind c ≡ 0 = omega (arith, same-small (kind c) 1) in
              rw (R.plain (λ e. omega (arith, light c l z))) (ordinary-row z)
          | yes o ↦
              go o (heavy c l o) (ℕ_discrete (label_of sh t (card_of sh t c)) from_source)
              (ℕ_discrete (label_of sh t (shop_of sh t c)) from_source) (ℕ_discrete (label_of sh t (card_of sh t c)) to_sink)
              (ℕ_discrete (label_of sh t (shop_of sh t c)) to_sink)
        ]
      where
        a : ℕ
        a = card_of sh t c

        b : ℕ
        b = shop_of sh t c

        three :
            earned kind c ≡ 1 → weight_of sh t c ≡ sh.toll →
            (label_of sh t (card_of sh t c) ≢ from_source) ⊎ (label_of sh t (shop_of sh t c) ≢ from_source) →
            (label_of sh t (card_of sh t c) ≢ to_sink) ⊎ (label_of sh t (shop_of sh t c) ≢ to_sink) → Marked (net_of sh t) kind F B₀ c n
        three o w x y =
            rw (R.rest w x y)
            (rest-row o (⊎_elim (λ h. inl (F-no (card_of sh t c) h)) (λ h. inr (F-no (shop_of sh t c) h)) x)
            (⊎_elim (λ h. inl (B-no (card_of sh t c) h)) (λ h. inr (B-no (shop_of sh t c) h)) y))

        go :
            earned kind c ≡ 1 → weight_of sh t c ≡ sh.toll →
            Dec (label_of sh t (card_of sh t c) ≡ from_source) → Dec (label_of sh t (shop_of sh t c) ≡ from_source) →
            Dec (label_of sh t (card_of sh t c) ≡ to_sink) → Dec (label_of sh t (shop_of sh t c) ≡ to_sink) →
            Marked (net_of sh t) kind F B₀ c n
        go o w (yes p) (yes q) x y = rw (R.ahead w p q) (source_row o (F-yes (card_of sh t c) p) (F-yes (shop_of sh t c) q))
        go o w (no p) q (yes x) (yes y) = rw (R.behind w x y) (sink-row o (B-yes (card_of sh t c) x) (B-yes (shop_of sh t c) y))
        go o w (yes p) (no q) (yes x) (yes y) = absurd (omega arith)
        go o w (no p) q (no x) y = three o w (inl p) (inl x)
        go o w (no p) q (yes x) (no y) = three o w (inl p) (inr y)
        go o w (yes p) (no q) (no x) y = three o w (inr q) (inl x)
        go o w (yes p) (no q) (yes x) (no y) = three o w (inr q) (inr y)

    pub labelled-codes :
        (k : ℕ → ℕ) → ((c : ℕ) → c < sh.rows → Reads sh t c (k c)) → Codes (net_of sh t) limit kind k
    labelled-codes k read =
        marked-codes r S.based.state.formed kind plain limit (kept_of ch) (spare_of sh t) S.based.state.level.choice.bits
        within counts F B₀ seen k (λ c l. marked c (k c) l (read c l))

codes-net : {d d' : Network} {limit kind k : ℕ → ℕ} → d' ≡ d → Codes d' limit kind k → Codes d limit kind k
codes-net {d} {d'} {limit} {kind} {k} e C = subst (λ (x : Network). Codes x limit kind k) e C

module _
    {sh : Shape} {t ch₁ sheet t₁ ch₂ t₂ t₃ t₄ ch₃ : List ℕ}
    (A : Started sh t ch₁ sheet t₁) (G : Augmented sh ch₁ sheet t₁ ch₂ t₂) (L : Named sh t₂ t₃ (sh.groups + 2))
    (Z : BothLabelled sh ch₂ sheet t₃ t₄) (C : Coding sh t₄ ch₂ ch₃ sh.rows)
  where
    keeps : Keeps sh Working t t₄
    keeps =
        keeps_then A.keeps
        (keeps_then G.keeps
        (keeps_then (unread-keeps (unread-labels L.only)) (unread-keeps (unread-search Z.only))))

    weights : (c : ℕ) → weight_of sh t₄ c ≡ weight_of sh t c
    weights c = ap (λ (f : ℕ → ℕ). f c) (weight-keeps keeps)

    pub labels-found : (ch : List ℕ) → length ch₂ ≡ length ch → Found sh t ch ch₃
    labels-found ch same-long = record {
      long = C.long ∙ same-long;
      codes = λ kind heavy light.
          codes-net (net-keeps keeps)
          (labelled-codes Z (λ v. omega (arith, A.range v)) (spare_of sh t)
          (λ v l.
          limits-unread (unread-search Z.only) ch₂ v
          ∙ limits-unread (unread-labels L.only) ch₂ v
          ∙ G.limits v l
          ∙ A.limits v l)
          kind
          (λ c l e. weights c ∙ heavy c l e)
          (λ c l e. omega (arith, weights c, light c l e))
          (kept_of ch₃) C.read);
    }
