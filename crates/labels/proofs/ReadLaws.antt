-- Laws of what the labels tell.
--   reads-mixed reads-source reads-sink reads-rest    one row, by its weight and the labels of its two nodes
--   coding-none coding-next coding-all     row after row
--   code-mixed code-source code-sink code_rest     one row, from what was read
use mathlib.Core.Path.{◌≡◌, refl, sym, ap, subst, ◌∙◌}
use mathlib.Core.Logic.{◌≢◌, ⊎_elim}
use mathlib.Core.List.{List}
use Prim.Native.Nat.{ℕ, ◌+◌}
use native.Mathlib.Decide.{ℕ_discrete}
use native.Mathlib.Omega.{arith}
use Rattle.scratch.specs.declared.Shape.{Shape}
use Rattle.scratch.specs.Map.{PutKept, label_of, card_of, shop_of, weight_of, kept_of}
use Rattle.labels.specs.Label.{from_source, to_sink, Reads, Coding}

module _ {sh : Shape} {t : List ℕ} {c : ℕ} where
  pub reads-mixed : weight_of sh t c ≡ sh.toll → label_of sh t (card_of sh t c) ≢ label_of sh t (shop_of sh t c) → Reads sh t c 3
  reads-mixed e n = record {
    plain = λ h. absurd (h e);
    ahead = λ w p q. absurd (n (p ∙ sym q));
    behind = λ w p q. absurd (n (p ∙ sym q));
    rest = λ w x y. refl;
  }

  pub reads-source :
      weight_of sh t c ≡ sh.toll → label_of sh t (card_of sh t c) ≡ label_of sh t (shop_of sh t c) →
      label_of sh t (card_of sh t c) ≡ from_source → Reads sh t c 1
  reads-source e i j = record {
    plain = λ h. absurd (h e);
    ahead = λ w p q. refl;
    behind = λ w p q. absurd (omega arith);
    rest = λ w x y. absurd (⊎_elim (λ h. h j) (λ h. h (sym i ∙ j)) x);
  }

  pub reads-sink :
      weight_of sh t c ≡ sh.toll → label_of sh t (card_of sh t c) ≡ label_of sh t (shop_of sh t c) →
      label_of sh t (card_of sh t c) ≡ to_sink → Reads sh t c 2
  reads-sink e i j = record {
    plain = λ h. absurd (h e);
    ahead = λ w p q. absurd (omega arith);
    behind = λ w p q. refl;
    rest = λ w x y. absurd (⊎_elim (λ h. h j) (λ h. h (sym i ∙ j)) y);
  }

  pub reads-rest :
      weight_of sh t c ≡ sh.toll → label_of sh t (card_of sh t c) ≢ from_source → label_of sh t (card_of sh t c) ≢ to_sink →
      Reads sh t c 3
  reads-rest e m n = record {
    plain = λ h. absurd (h e);
    ahead = λ w p q. absurd (m p);
    behind = λ w p q. absurd (n p);
    rest = λ w x y. refl;
  }

pub coding-none : {sh : Shape} {t ch : List ℕ} → Coding sh t ch ch 0
coding-none = record { long = refl; read = λ c l. absurd (omega arith) }

pub coding-next :
    {sh : Shape} {t ch ch₁ ch₂ : List ℕ} {m x : ℕ} → Coding sh t ch ch₁ m → Reads sh t m x → PutKept ch₁ ch₂ m x →
    Coding sh t ch ch₂ (m + 1)
coding-next {sh} {t} {ch} {ch₁} {ch₂} {m} {x} C R P = record {
  long = P.long ∙ C.long;
  read = λ c l.
      elim (ℕ_discrete c m) [
        | yes e ↦ subst (λ (n : ℕ). Reads sh t c n) (sym (ap (kept_of ch₂) e ∙ P.puts.here)) (rw e R)
        | no n ↦ subst (λ (i : ℕ). Reads sh t c i) (sym (P.puts.else c n)) (C.read c (omega arith))
      ];
}

pub coding-all : {sh : Shape} {t ch ch₁ : List ℕ} {m k : ℕ} → Coding sh t ch ch₁ m → m ≡ k → Coding sh t ch ch₁ k
coding-all C e = rw e at C

--------------------------------------------------------------------------------
-- One row, from what was read

module _
    (sh : Shape) (t : List ℕ) (c : ℕ) {w a b la lb : ℕ} (ew : w ≡ weight_of sh t c) (ea : a ≡ card_of sh t c) (eb : b ≡ shop_of sh t c)
    (ela : la ≡ label_of sh t a) (elb : lb ≡ label_of sh t b) (full : w ≡ sh.toll)
  where
    at_card : label_of sh t (card_of sh t c) ≡ la
    at_card = sym (ela ∙ ap (label_of sh t) ea)

    at_shop : label_of sh t (shop_of sh t c) ≡ lb
    at_shop = sym (elb ∙ ap (label_of sh t) eb)

    pub code-mixed : la ≢ lb → {x : ℕ} → x ≡ 3 → Reads sh t c x
    code-mixed n is = rw is (reads-mixed (sym ew ∙ full) (λ e. n (sym at_card ∙ e ∙ at_shop)))

    pub code-source : la ≡ lb → la ≡ from_source → {x : ℕ} → x ≡ 1 → Reads sh t c x
    code-source e i is = rw is (reads-source (sym ew ∙ full) (at_card ∙ e ∙ sym at_shop) (at_card ∙ i))

    pub code-sink : la ≡ lb → la ≡ to_sink → {x : ℕ} → x ≡ 2 → Reads sh t c x
    code-sink e i is = rw is (reads-sink (sym ew ∙ full) (at_card ∙ e ∙ sym at_shop) (at_card ∙ i))

    pub code_rest : la ≢ from_source → la ≢ to_sink → {x : ℕ} → x ≡ 3 → Reads sh t c x
    code_rest m n is = rw is (reads-rest (sym ew ∙ full) (λ e. m (sym at_card ∙ e)) (λ e. n (sym at_card ∙ e)))
