-- Laws of reading the marks off the prices in place.
--   put-mark               a store into the sheet
--   row-left group-left    what is left is the mark
--   priced-long            another sheet of the same length
--   price-still            the price of a node whose cell was not written yet, or of a root
--   marking-none           nothing is read off yet
--   marking-row marking-group    one row more, and one group more
--   marking-both           the rows, and then the groups
--   marked-certified       at toll 0 the sheet of the marks certifies the choice
use mathlib.Core.Path.{◌≡◌, refl, sym, ap, ap₂, fun_ext, ◌∙◌}
use mathlib.Core.Logic.{◌⊎◌, inl, inr}
use mathlib.Core.List.{List}
use Prim.Native.Nat.{ℕ, ◌+◌, ◌-◌, ◌≤◌, ◌<◌}
use native.Mathlib.Decide.{ℕ_discrete, dec_lt}
use native.Mathlib.Omega.{arith}
use lib.ListN.{length, set, length-set}
use lib.Seq.{get_or-set_same, get_or-set_other}
use Rattle.theory.specs.Network.{Network}
use Rattle.theory.specs.Level.{mark, rest, Range}
use Rattle.theory.specs.Sheet.{Certified}
use Rattle.theory.proofs.NetworkLaws.{formed-down}
use Rattle.theory.proofs.LevelLaws.{level-certified, certified-cong}
use Rattle.scratch.specs.declared.Shape.{Shape}
use Rattle.scratch.specs.Map.{weight_of, price_of, parent_of, kept_of}
use Rattle.scratch.specs.View.{net_of}
use Rattle.scratch.proofs.MapLaws.{price-at, price-out}
use Rattle.prices.specs.State.{limit_of, State}
use Rattle.prices.specs.Marks.{group_mark, row_mark, PutMark, Priced, Marking, Marked}
use Rattle.prices.proofs.StateLaws.{level-toll}

pub put-mark : (sheet : List ℕ) (i x : ℕ) → i < length sheet → PutMark sheet (set sheet i x) i x
put-mark sheet i x l = record {
  long = length-set sheet i x;
  puts = record { here = get_or-set_same sheet i x 0 l; else = λ j n. get_or-set_other sheet i j x 0 n };
}

module _ (d : Network) (p : ℕ → ℕ) (r x y : ℕ) (left : r ≡ x - y) where
  pub row-left : (w : ℕ → ℕ) (c : ℕ) → x ≡ w c → y ≡ p (d.card c) + p (d.shop c) → r ≡ rest d w p c
  unfolding rest
  row-left w c e f = left ∙ ap₂ ◌-◌ e f

  pub group-left : (v up : ℕ) → x ≡ p v → y ≡ p up → up ≡ d.parent v → r ≡ mark d p v
  unfolding mark
  group-left v up e f g = left ∙ ap₂ ◌-◌ e (f ∙ ap p g)

pub priced-long : (sh : Shape) (sheet t sheet' : List ℕ) → length sheet' ≡ length sheet → Priced sh sheet t → Priced sh sheet' t
priced-long sh sheet t sheet' e R = record { room = R.room; long = omega (arith, R.long); formed = R.formed }

pub marking-none : (sh : Shape) (sheet t : List ℕ) → Marking sh sheet t sheet sh.groups 0
marking-none sh sheet t = record {
  long = refl;
  groups = λ v a b. absurd (omega arith);
  rows = λ c l. absurd (omega arith);
  low = λ v l. refl;
  high = λ c l. refl;
}

module _
    (sh : Shape) (sheet t sheet' : List ℕ) (m n : ℕ) (M : Marking sh sheet t sheet' m n) (below : m ≤ sh.groups)
  where
    pub price-still : (u : ℕ) → (u < m) ⊎ (sh.groups ≤ u) → price_of sh sheet' u ≡ price_of sh sheet u
    price-still u (inl l) = price-at sh sheet' u (omega arith) ∙ M.low u l ∙ sym (price-at sh sheet u (omega arith))
    price-still u (inr l) = price-out sh sheet' u l ∙ sym (price-out sh sheet u l)

-- while the cells of the groups still hold prices
module _ (sh : Shape) (sheet t sheet' : List ℕ) (n : ℕ) (M : Marking sh sheet t sheet' sh.groups n) where
  prices : price_of sh sheet' ≡ price_of sh sheet
  prices =
      fun_ext
      (λ u.
      price-still sh sheet t sheet' sh.groups n M (omega arith) u
      (elim (dec_lt u sh.groups) [ yes l ↦ inl l | no h ↦ inr (omega arith) ]))

  pub marking-row :
      (sheet'' : List ℕ) → PutMark sheet' sheet'' (sh.groups + n) (rest (net_of sh t) (weight_of sh t) (price_of sh sheet') n) →
      Marking sh sheet t sheet'' sh.groups (n + 1)
  marking-row sheet'' P = record {
    long = P.long ∙ M.long;
    groups = λ v a b. absurd (omega arith);
    rows = λ c l.
        elim (ℕ_discrete c n) [
          | yes e ↦ rw e (P.puts.here ∙ ap (λ (p : ℕ → ℕ). rest (net_of sh t) (weight_of sh t) p n) prices)
          | no h ↦ P.puts.else (sh.groups + c) (λ e. h (omega arith)) ∙ M.rows c (omega arith)
        ];
    low = λ v l. P.puts.else v (λ e. omega arith) ∙ M.low v l;
    high = λ c l. P.puts.else (sh.groups + c) (λ e. omega arith) ∙ M.high c (omega arith);
  }

  -- then the groups
  pub marking-both : (sheet'' : List ℕ) → Marking sh sheet' t sheet'' 0 0 → Marking sh sheet t sheet'' 0 n
  marking-both sheet'' G = record {
    long = G.long ∙ M.long;
    groups = λ v a l. G.groups v a l ∙ ap (λ (p : ℕ → ℕ). mark (net_of sh t) p v) prices;
    rows = λ c l. G.high c (omega arith) ∙ M.rows c l;
    low = λ v l. absurd (omega arith);
    high = λ c l. G.high c (omega arith) ∙ M.high c l;
  }

pub marking-group :
    (sh : Shape) (sheet t sheet' : List ℕ) (m v : ℕ) → m ≡ v + 1 → Priced sh sheet t → v < sh.groups → Marking sh sheet t sheet' m 0 →
    (sheet'' : List ℕ) → PutMark sheet' sheet'' v (mark (net_of sh t) (price_of sh sheet') v) → Marking sh sheet t sheet'' v 0
unfolding mark
marking-group sh sheet t sheet' m v next R l M sheet'' P = record {
  long = P.long ∙ M.long;
  groups = λ u a b.
      elim (ℕ_discrete u v) [
        | yes e ↦
            rw e
            (P.puts.here
            ∙ ap₂ ◌-◌ (still v (inl (omega arith)))
            (still (parent_of sh t v)
            (elim (formed-down (net_of sh t) R.formed v l) [ inl h ↦ inl (omega arith) | inr h ↦ inr h ])))
        | no h ↦ P.puts.else u h ∙ M.groups u (omega arith) b
      ];
  rows = λ c k. absurd (omega arith);
  low = λ u k. P.puts.else u (λ e. omega arith) ∙ M.low u (omega arith);
  high = λ c k. P.puts.else (sh.groups + c) (λ e. omega arith) ∙ M.high c k;
}
  where
    still : (u : ℕ) → (u < m) ⊎ (sh.groups ≤ u) → price_of sh sheet' u ≡ price_of sh sheet u
    still = price-still sh sheet t sheet' m 0 M (omega arith)

--------------------------------------------------------------------------------
-- The sheet at the end

pub marked-certified :
    (sh : Shape) (ch sheet t sheet' : List ℕ) (top : ℕ) → State sh ch sheet t → sh.toll ≡ 0 → Marked sh sheet t sheet' →
    Range top (price_of sh sheet) 0 → ((c : ℕ) → c < sh.rows → weight_of sh t c ≤ top) →
    Certified (net_of sh t) (limit_of sh ch t) (weight_of sh t) top (kept_of ch) (group_mark sheet') (row_mark sh sheet')
marked-certified sh ch sheet t sheet' top X toll M range light =
    certified-cong (net_of sh t) (limit_of sh ch t) (weight_of sh t) top (kept_of ch) (mark (net_of sh t) (price_of sh sheet))
    (rest (net_of sh t) (weight_of sh t) (price_of sh sheet)) (group_mark sheet') (row_mark sh sheet')
    (λ v l. M.groups v (omega arith) l) M.rows
    (level-certified (net_of sh t) X.formed (limit_of sh ch t) (weight_of sh t) top (price_of sh sheet) (kept_of ch)
    (level-toll (sym toll) X.level) range light)
