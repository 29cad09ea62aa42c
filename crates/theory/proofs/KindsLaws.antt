-- More kinds than a day has. Where all rows are of K kinds, the best choice with K kinds is the one with any greater number of them.
--   lex-wider lex-narrower two lists of counts that agree from place K on are compared alike with K places and with more
--   best-wider                 a best choice with K kinds is one with more
--   choice-wider           the best choice is the same list
use mathlib.Core.Path.{◌≡◌, sym, ◌∙◌, subst}
use mathlib.Core.Logic.{inl, inr}
use Prim.Native.Nat.{ℕ, zero, suc, ◌≤◌, ◌<◌}
use native.Mathlib.Decide.{ℕ_discrete}
use native.Mathlib.Omega.{arith}
use Rattle.theory.specs.Network.{Network}
use Rattle.theory.specs.Priority.{kept, Lex}
use Rattle.theory.specs.Best.{Best}
use Rattle.theory.specs.Search.{best_choice}
use Rattle.theory.proofs.PriorityLaws.{kept_above}
use Rattle.theory.proofs.ChoiceLaws.{choice-is, choice-bits, choice-list}

module _ (K : ℕ) (d e : ℕ → ℕ) (same : (k : ℕ) → K ≤ k → d k ≡ e k) where
  pub lex-wider : (L : ℕ) → K ≤ L → Lex K d e → Lex L d e
  lex-wider zero h l = tt
  lex-wider (suc M) h l =
      elim (ℕ_discrete K (suc M)) [
        | yes q ↦ subst (λ (n : ℕ). Lex n d e) q l
        | no q ↦ inr (same M (omega arith), lex-wider M (omega arith) l)
      ]

  pub lex-narrower : (L : ℕ) → K ≤ L → Lex L d e → Lex K d e
  lex-narrower zero h l = let q : 0 ≡ K = omega arith in subst (λ (n : ℕ). Lex n d e) q tt
  lex-narrower (suc M) h l =
      elim (ℕ_discrete K (suc M)) [
        | yes q ↦ subst (λ (n : ℕ). Lex n d e) (sym q) l
        | no q ↦
            elim l [
              | inl s ↦ absurd (omega (arith, same M (omega arith)))
              | inr s ↦ lex-narrower M (omega arith) s.1
            ]
      ]

module _ (N K L : ℕ) (kind : ℕ → ℕ) (ranged : (c : ℕ) → c < N → kind c < K) (more : K ≤ L) where
  -- no row is of a kind from K on
  none : (X Y : ℕ → ℕ) (k : ℕ) → K ≤ k → kept N kind X k ≡ kept N kind Y k
  none X Y k h = kept_above N K kind ranged X k h ∙ sym (kept_above N K kind ranged Y k h)

  pub best-wider : {Fit : (ℕ → ℕ) → Type 0} {X : ℕ → ℕ} → Best N K kind Fit X → Best N L kind Fit X
  best-wider {X = X} b = record {
    bits = b.bits;
    fits = b.fits;
    most = λ Y s f. lex-wider K (kept N kind Y) (kept N kind X) (none Y X) L more (b.most Y s f);
    first = λ Y s f m. b.first Y s f (lex-narrower K (kept N kind X) (kept N kind Y) (none X Y) L more m);
  }

pub choice-wider :
    (d : Network) (limit : ℕ → ℕ) (K L : ℕ) (kind : ℕ → ℕ) → ((c : ℕ) → c < d.rows → kind c < K) → K ≤ L →
    best_choice d limit K kind ≡ best_choice d limit L kind
choice-wider d limit K L kind ranged more =
    choice-list d limit L kind (λ c h. omega (arith, ranged c h)) (best_choice d limit K kind)
    (choice-bits d limit K kind ranged).long
    (best-wider d.rows K L kind ranged more (choice-is d limit K kind ranged))
