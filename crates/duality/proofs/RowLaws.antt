-- One row more at the end of a day: the best choice of the shorter day is a best choice of the longer network's first rows, and that of the
-- longer day one of all its rows, so that LateLaws speaks of both.
--   best-most              a best choice has the most earned rows and then the most rows
--   one_more_lem               document 02, E8: the earned count stays or rises by one, and the kept count falls by one, stays, or rises by one
use mathlib.Core.Path.{◌≡◌, refl, sym, ap, ◌∙◌, subst}
use mathlib.Core.Logic.{inl, inr}
use Prim.Native.Nat.{ℕ, suc, ◌+◌, ◌≤◌, ◌<◌}
use native.Mathlib.Decide.{ℕ_discrete}
use native.Mathlib.Numerals.{add-one}
use native.Mathlib.Omega.{arith}
use lib.ListN.{get_or-eq_default}
use Rattle.theory.specs.Sum.{same}
use Rattle.theory.specs.Incidence.{size}
use Rattle.theory.specs.Matroid.{row}
use Rattle.theory.specs.Network.{Network, Instance, FitsBoth}
use Rattle.theory.specs.Formed.{Formed, Alike}
use Rattle.theory.specs.Priority.{kept}
use Rattle.theory.specs.Best.{Best}
use Rattle.theory.specs.Search.{best_choice}
use Rattle.theory.proofs.SumLaws.{same-small}
use Rattle.theory.proofs.PriorityLaws.{two-lex}
use Rattle.theory.proofs.BestLaws.{kept-kinds, best-kinds}
use Rattle.theory.proofs.AlikeLaws.{best-alike}
use Rattle.theory.proofs.ChoiceLaws.{choice-bits, choice-is}
use Rattle.duality.specs.Prices.{up_to}
use Rattle.duality.specs.Heavy.{earned, Most, OneApart}
use Rattle.duality.specs.Late.{earned_in, kept_in, Longer, AtMostOne}
use Rattle.duality.proofs.LateLaws.{late}

best-most :
    (net : Network) (N : ℕ) (limit kind X : ℕ → ℕ) → ((c : ℕ) → c < N → kind c < 2) →
    Best N 2 kind (FitsBoth (up_to net N) limit) X → Most net N limit (λ c. same (kind c) 1) X
unfolding earned kept
best-most net N limit kind X two best = record {
  choice = record { bits = best.bits; fits = best.fits };
  most = λ Y ch. two-lex N kind two Y X (best.most Y ch.bits ch.fits);
}

module _ (i j : Instance) (long : Longer i j) where
  abbrev N : ℕ
  N = i.net.rows

  -- the rows that both days have
  alike : Alike i.net (up_to j.net N)
  alike = record {
    cards = long.cards;
    groups = long.groups;
    rows = refl;
    parent = long.parent;
    card = long.card;
    shop = long.shop;
  }

  rows_next : j.net.rows ≡ suc N
  rows_next = long.rows ∙ add-one N

  abbrev old : ℕ → ℕ
  old = row (best_choice i.net i.limit 2 i.kind)

  abbrev new : ℕ → ℕ
  new = row (best_choice j.net j.limit 2 j.kind)

  module _ (formed : Formed j.net) (two : (c : ℕ) → c < j.net.rows → j.kind c < 2) where
    two-old : (c : ℕ) → c < N → i.kind c < 2
    two-old c l = omega (arith, long.kinds c l, two c (omega (arith, long.rows)))

    old-most : Most j.net N j.limit (λ c. same (j.kind c) 1) old
    old-most =
        best-most j.net N j.limit j.kind old (λ c l. two c (omega (arith, long.rows)))
        (best-kinds N 2 long.kinds
        (best-alike i.net (up_to j.net N) alike i.limit j.limit long.limits N 2 i.kind old
        (choice-is i.net i.limit 2 i.kind two-old)))

    new-most : Most j.net (suc N) j.limit (λ c. same (j.kind c) 1) new
    new-most =
        subst (λ (n : ℕ). Most j.net n j.limit (λ c. same (j.kind c) 1) new) rows_next
        (best-most j.net j.net.rows j.limit j.kind new two (choice-is j.net j.limit 2 j.kind two))

    -- the row that only the new day has is past the end of the old choice
    old-out : old N ≡ 0
    old-out =
        get_or-eq_default (best_choice i.net i.limit 2 i.kind) 0
        (omega (arith, (choice-bits i.net i.limit 2 i.kind two-old).long))

    pub one_more_lem : AtMostOne (earned_in i) (kept_in i) (earned_in j) (kept_in j)
    unfolding earned kept
    one_more_lem =
        words (earned_in i) (kept_in i) (earned_in j) (kept_in j) (omega (arith, counts.earned_keeps, same_old, next-earned))
        (omega (arith, counts.earned_one, same_old, next-earned)) (omega (arith, counts.kept_loses, next-kept))
        (omega (arith, counts.kept_gains, next-kept))
        (λ e. omega (arith, counts.kept_stays (sym next-earned ∙ e ∙ same_old), next-kept))
      where
        counts : OneApart N (λ c. same (j.kind c) 1) old new
        counts =
            late j.net formed j.limit (λ c. same (j.kind c) 1) (λ c l. same-small (j.kind c) 1) N
            (omega (arith, rows_next)) old new old-out old-most new-most

        same_old : earned_in i ≡ kept N j.kind old 1
        same_old = ap (λ (f : ℕ → ℕ). f 1) (kept-kinds N old long.kinds)

        next-earned : earned_in j ≡ kept (suc N) j.kind new 1
        next-earned = ap (λ (n : ℕ). kept n j.kind new 1) rows_next

        next-kept : kept_in j ≡ size (suc N) new
        next-kept = ap (λ (n : ℕ). size n new) rows_next

        -- the counts in document 02's words
        words :
            (e k e' k' : ℕ) → e ≤ e' → e' ≤ e + 1 → k ≤ k' + 1 → k' ≤ k + 1 → (e' ≡ e → k ≤ k') → AtMostOne e k e' k'
        words e k e' k' keeps one loses gains stays = record {
          earned = elim (ℕ_discrete e' e) [ yes p ↦ inl p | no p ↦ inr (omega arith) ];
          kept =
              elim (ℕ_discrete k (k' + 1)) [
                | yes p ↦ inl (omega arith)
                | no p ↦ elim (ℕ_discrete k' k) [ yes q ↦ inr (inl q) | no q ↦ inr (inr (omega arith)) ]
              ];
          falls = λ p. elim (ℕ_discrete e' e) [ yes q ↦ absurd (omega (arith, stays q)) | no q ↦ omega arith ];
        }
