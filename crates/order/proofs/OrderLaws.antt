-- Laws of the row order over the buffers: a row leaves its lists, and stays as it is.
--   order-unread           the row order, where tables change that the state does not read
--   drop-filled drop-placing       row i leaves its lists, and nothing else changes
--   parted-told            what was read of row i
--   stays-kept stays-dear stays-cut stays-low    why row i may stay as it is: it is in; it costs more than it weighs; a closed set
--                          bars it, as the nodes of a rank and above do
--   stays-told             it is left out, and stays so where its two nodes are of different classes
--   stays-any              by the three tests at once
--   card-node              its card node is a node
--   placed-still           row i stays as it is
--   placed-start placed-then placed-all    before the first row, one step after another, and after the last row
--   at_next                when the next row is to be placed
--   swapping-class placed-class    a swap is made under another first free row and label
use mathlib.Core.Path.{◌≡◌, refl, sym, ap, subst, ◌∙◌}
use mathlib.Core.Logic.{◌≢◌}
use mathlib.Core.Bool.{Bool, not, ◌||◌, true≢false}
use mathlib.Core.List.{List}
use Prim.Native.Nat.{ℕ, ◌+◌, ◌*◌, ◌-◌, ◌≤◌, ◌<◌}
use native.Mathlib.Nat.{le_refl}
use native.Mathlib.Decide.{ℕ_discrete}
use native.Mathlib.Omega.{arith}
use lib.Dec.{eqb}
use borrow.Author.Tests.{eqb-true, eqb-false, eq-eqb, ne_eqb, not-true, not-false}
use Rattle.theory.specs.Bounds.{cell_bound}
use Rattle.theory.specs.Level.{Level}
use Rattle.theory.specs.Residual.{Arc, Cut, freed}
use Rattle.theory.specs.Residual.Arc.{puts}
use Rattle.theory.specs.Class.{Sorted}
use Rattle.theory.proofs.ResidualLaws.{card-below, shop-below}
use Rattle.theory.proofs.ClassLaws.{sorted-cut}
use Rattle.theory.proofs.OrderLaws.{ordered-start, ordered-kept, ordered-dear, ordered-cut}
use Rattle.scratch.specs.declared.Shape.{Shape}
use Rattle.scratch.specs.Map.{span, Keeps, labels, firsts, label_of, spare_of, card_of, shop_of, weight_of, price_of, kept_of, row_price}
use Rattle.scratch.specs.View.{net_of, residual_of}
use Rattle.residual.specs.Items.{Links}
use Rattle.prices.specs.State.{with_class, limit_of, Filled}
use Rattle.order.specs.Order.{InOrder, Classes, Paid, AtRow, Placing, Placed, Arranged, Parted, LeftOut, Staying, Swapping}
use Rattle.prices.proofs.StateLaws.{level-toll, filled_none, filled-then}
use Rattle.prices.proofs.ReadyLaws.{state-counts}
use Rattle.prices.proofs.ShapeLaws.{links-class, state-class, filled-class}
use Rattle.moves.proofs.MoveLaws.{residual-keeps, ordered_keeps, OnlyUnread, unread-firsts, unread-keeps, spare-unread, limits-unread, state-unread, filled-unread}
use Rattle.order.proofs.ClassLaws.{classes-one, classes-freed, classes-next, classes-rise, classes-same, classes-shape}

--------------------------------------------------------------------------------
-- Row i leaves its lists

pub order-unread : {sh : Shape} {t t' : List ℕ} → OnlyUnread sh t t' → (ch : List ℕ) {j : ℕ} → InOrder sh ch t j → InOrder sh ch t' j
order-unread only ch O = ordered_keeps (unread-keeps only) ch ch (λ v l. limits-unread only ch v) O

module _
    {sh : Shape} {ch sheet t t' : List ℕ} {i next : ℕ} (P : Placing sh ch sheet t i next)
    (only : Keeps sh (λ k. k ≡ firsts) t t')
  where
    abbrev quiet : OnlyUnread sh t t'
    quiet = unread-firsts only

    pub drop-filled : Filled sh ch sheet t ch t'
    drop-filled = filled-unread quiet P.at.state

    pub drop-placing : Placing sh ch sheet t' i next
    drop-placing = record {
      at = record {
        state = state-unread quiet P.at.state;
        none = P.at.none;
        row = P.at.row;
        order = order-unread quiet ch P.at.order;
      };
      classes =
          classes-same (residual-keeps (unread-keeps quiet) sheet) (spare-unread quiet) (only.rest labels (λ e. omega arith))
          P.classes;
    }

--------------------------------------------------------------------------------
-- Row i stays

pub parted-told :
    {sh : Shape} {t : List ℕ} {i a b x y : ℕ} → a ≡ card_of sh t i → b ≡ shop_of sh t i → x ≡ label_of sh t a →
    y ≡ label_of sh t b → Parted sh t i (not (eqb x y))
parted-told {sh} {t} {x = x} {y} card shop at_card at_shop = record {
  yes = λ e same.
      eqb-false x y (not-true (eqb x y) e)
      (omega (arith, ap (label_of sh t) card, ap (label_of sh t) shop));
  no = λ e.
      omega (arith, ap (label_of sh t) card, ap (label_of sh t) shop, eqb-true x y (not-false (eqb x y) e));
}

module _ {sh : Shape} {ch sheet t : List ℕ} {i : ℕ} (A : AtRow sh ch sheet t i) where
  level : Level (net_of sh t) (limit_of sh ch t) (weight_of sh t) (price_of sh sheet) 0 (kept_of ch)
  level = level-toll (sym A.none) A.state.level

  pub card-node : card_of sh t i < sh.groups + 2
  card-node = omega (arith, card-below (net_of sh t) A.state.formed i A.row)

  pub shop-node : shop_of sh t i < sh.groups + 2
  shop-node = omega (arith, shop-below (net_of sh t) A.state.formed i A.row)

  pub stays-kept : (kept_of ch i ≡ 0 → ⊥) → InOrder sh ch t (i + 1)
  stays-kept kept =
      ordered-kept (net_of sh t) (limit_of sh ch t) (weight_of sh t) (kept_of ch) i A.row
      (omega (arith, level.choice.bits i A.row)) A.order

  pub stays-dear :
      {k p w : ℕ} → k ≡ kept_of ch i → p ≡ row_price sh sheet t i → w ≡ weight_of sh t i → k ≡ 0 → (p ≡ w → ⊥) →
      InOrder sh ch t (i + 1)
  stays-dear kept price weight out dear =
      ordered-dear (net_of sh t) A.state.formed (limit_of sh ch t) (weight_of sh t) (price_of sh sheet) (kept_of ch) level i
      A.row (omega (arith, level.out i A.row (sym kept ∙ out))) A.order

  pub stays-cut :
      (R : ℕ → ℕ) → kept_of ch i ≡ 0 →
      Cut (freed (residual_of sh sheet t) (i + 1)) (kept_of ch) (spare_of sh t) R (shop_of sh t i) (card_of sh t i) →
      InOrder sh ch t (i + 1)
  stays-cut R out C =
      ordered-cut (freed (residual_of sh sheet t) (i + 1)) A.state.formed (limit_of sh ch t) (kept_of ch) (spare_of sh t) R
      A.state.level (state-counts sh ch t) A.none i A.row refl C out A.order

  -- a rank that is lower at the card node than at the shop node
  pub stays-low :
      {rank : ℕ → ℕ} → Sorted (freed (residual_of sh sheet t) (i + 1)) (kept_of ch) (spare_of sh t) rank →
      kept_of ch i ≡ 0 → rank (card_of sh t i) < rank (shop_of sh t i) → InOrder sh ch t (i + 1)
  stays-low {rank} sorted out less =
      stays-cut (λ v. rank v + 1 - rank (shop_of sh t i)) out
      (sorted-cut (freed (residual_of sh sheet t) (i + 1)) sorted (card_of sh t i) (shop_of sh t i) less)

  -- row i as an open arc
  row-arc :
      kept_of ch i ≡ 0 → row_price sh sheet t i ≡ weight_of sh t i →
      Arc (freed (residual_of sh sheet t) i) (kept_of ch) (spare_of sh t) (sh.groups + i) (card_of sh t i) (shop_of sh t i) 0
  row-arc out even =
      puts
      (record {
        c = i;
        row = A.row;
        live = le_refl i;
        code = refl;
        byte = out;
        tail = refl;
        head = refl;
        slack = omega (arith, A.none);
      })

  module _ {next : ℕ} (C : Classes sh ch sheet t i next) where
    stays-parted :
        kept_of ch i ≡ 0 → row_price sh sheet t i ≡ weight_of sh t i →
        label_of sh t (card_of sh t i) ≢ label_of sh t (shop_of sh t i) → InOrder sh ch t (i + 1)
    stays-parted out even other =
        stays-low (classes-freed C (i + 1) (omega arith)) out
        (classes-rise C (sh.groups + i) (card_of sh t i) (shop_of sh t i) card-node shop-node (row-arc out even) other)

    pub stays-told :
        {k p w : ℕ} → k ≡ kept_of ch i → p ≡ row_price sh sheet t i → w ≡ weight_of sh t i → k ≡ 0 → p ≡ w → {r : Bool} →
        Parted sh t i r → Staying sh ch sheet t i r
    stays-told kept price weight out even D = record {
      yes = λ e. stays-parted (omega arith) (omega arith) (D.yes e);
      no = λ e. record { out = omega arith; even = omega arith; one = D.no e };
    }

    -- by the three tests at once
    pub stays-any :
        {k p w : ℕ} → k ≡ kept_of ch i → p ≡ row_price sh sheet t i → w ≡ weight_of sh t i → {r : Bool} → Parted sh t i r →
        Staying sh ch sheet t i ((not (eqb k 0) || not (eqb p w)) || r)
    stays-any {k} {p} {w} kept price weight D =
        elim (ℕ_discrete k 0) [
          | no n ↦
              rw (ne_eqb k 0 n)
              (record { yes = λ e. stays-kept (λ z. n (kept ∙ z)); no = λ e. absurd (true≢false e) })
          | yes out ↦
              rw (eq-eqb k 0 out)
              (elim (ℕ_discrete p w) [
                | no n ↦
                    rw (ne_eqb p w n)
                    (record { yes = λ e. stays-dear kept price weight out n; no = λ e. absurd (true≢false e) })
                | yes even ↦ rw (eq-eqb p w even) (stays-told kept price weight out even D)
              ])
        ]

    pub placed-still : Links sh sheet t (i + 1) → InOrder sh ch t (i + 1) → Placed sh ch sheet t ch t (i + 1) next
    placed-still lists O = record {
      filled = filled_none sh ch sheet t A.state;
      lists = lists;
      order = O;
      classes = classes-next C;
    }

    -- the label of a class leaves room for the arcs
    class_low : (v : ℕ) → v < sh.groups + 2 → label_of sh t v + 2 * span ≤ cell_bound
    class_low v l =
        let k = C.named v l in
        omega (arith, k.1, k.2, C.few, A.row, A.state.room.few.rows)

    pub swapping-class :
        {a b : ℕ} (m x : ℕ) → a ≡ card_of sh t i → b ≡ shop_of sh t i → m ≡ i + 1 → x ≡ label_of sh t a →
        Links sh sheet t (i + 1) → LeftOut sh ch sheet t i → Swapping (with_class sh m x) ch sheet t i a b next
    unfolding limit_of
    swapping-class {a} {b} m x card shop above mine lists L = record {
      placing = record {
        at = record {
          state = state-class sh m x (omega (arith, ap (label_of sh t) card, class_low (card_of sh t i) card-node)) A.state;
          none = A.none;
          row = A.row;
          order = A.order;
        };
        classes = classes-shape sh m x C;
      };
      left = record { out = L.out; even = L.even; one = L.one };
      lists = links-class sh m x sheet t (subst (λ (lo : ℕ). Links sh sheet t lo) (sym above) lists);
      above = above;
      card = card;
      shop = shop;
      mine = sym mine;
    }

-- back from another first free row and label
pub placed-class :
    (sh : Shape) (m x : ℕ) {ch sheet t ch' t' : List ℕ} {i next : ℕ} → sh.fresh + 2 * span ≤ cell_bound →
    Placed (with_class sh m x) ch sheet t ch' t' i next → Placed sh ch sheet t ch' t' i next
unfolding limit_of
placed-class sh m x {sheet} {t' = t'} low P = record {
  filled = filled-class low P.filled;
  lists = links-class (with_class sh m x) sh.free sh.fresh sheet t' P.lists;
  order = P.order;
  classes = classes-shape (with_class sh m x) sh.free sh.fresh P.classes;
}

pub placed-start : {sh : Shape} {ch sheet t : List ℕ} → Paid sh ch sheet t → Placed sh ch sheet t ch t 0 1
placed-start {sh} {ch} {sheet} {t} P = record {
  filled = filled_none sh ch sheet t P.state;
  lists = P.lists;
  order = ordered-start (net_of sh t) (limit_of sh ch t) (weight_of sh t) (kept_of ch);
  classes = classes-one P.one;
}

module _ {sh : Shape} {ch sheet t ch' t' : List ℕ} (F : Filled sh ch sheet t ch' t') where
  pub placed-then :
      {ch'' t'' : List ℕ} {i next : ℕ} → Placed sh ch' sheet t' ch'' t'' i next → Placed sh ch sheet t ch'' t'' i next
  placed-then {ch''} {t''} P = record {
    filled = filled-then sh ch sheet t ch' t' ch'' t'' F P.filled;
    lists = P.lists;
    order = P.order;
    classes = P.classes;
  }

  pub at_next : {i : ℕ} → sh.toll ≡ 0 → i < sh.rows → InOrder sh ch' t' i → AtRow sh ch' sheet t' i
  at_next none l O = record { state = F.state; none = none; row = l; order = O }

pub placed-all :
    {sh : Shape} {ch sheet t ch' t' : List ℕ} {i next : ℕ} → Placed sh ch sheet t ch' t' i next → i ≡ sh.rows →
    Arranged sh ch sheet t ch' t'
placed-all {sh} {ch' = ch'} {t'} P e = record {
  filled = P.filled;
  order = subst (λ (k : ℕ). InOrder sh ch' t' k) e P.order;
}
