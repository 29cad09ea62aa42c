-- Laws of what the calls on a tally promise, case by case.
--   refused-is granted-is  what the test of an answer says
--   row-lacks row_lies     what the test of a row says
--   put-by                 the number of a put, for a row that is not in
--   put-lies take-lies     a row that a call is done for is there
--   changed-not changed-to     what a call on a row promises that is refused, and one that is done
--   put_refused put-done take-refused take_done        so with putting in and taking out
--   show-lacks show-count      what reading a count promises
use mathlib.Core.Path.{◌≡◌, refl, sym, ap, ◌∙◌, subst}
use mathlib.Core.Bool.{Bool, true, false, not, false≢true, true≢false}
use mathlib.Core.Logic.{inl, inr, ◌≢◌}
use mathlib.Core.List.{List}
use Prim.Native.Nat.{ℕ, zero, suc, ◌+◌, ◌<◌, ◌≤◌}
use native.Mathlib.Decide.{dec_lt}
use native.Mathlib.Omega.{arith}
use lib.ListN.{get_or}
use lib.Dec.{leb}
use borrow.Author.Tests.{lt-ltb, le-ltb, le-leb, lt-leb, leb-true, leb-false, eq-eqb, ne_eqb}
use Rattle.theory.specs.Bounds.{max_rows}
use Rattle.theory.specs.Sum.{pick}
use Rattle.theory.specs.Incidence.{plus}
use Rattle.theory.specs.Network.{Instance, fits_both}
use Rattle.theory.proofs.TestLaws.{true-both}
use Rattle.exchange.specs.Exchange.{minus}
use Rattle.refusal.specs.declared.Reason.TheVariants.{Value, Inside, Outside, Full}
use Rattle.refusal.specs.Table.{number_of}
use Rattle.tally.specs.declared.State.{State}
use Rattle.tally.specs.declared.Tally.{Tally}
use Rattle.tally.specs.Walks.{CountedRow, Lacks, Lies, LacksRow, PutTold, TakeTold, node_of}
use Rattle.tally.specs.Tally.{tally, Holds, put_number, take_number, after_call, Changed, PutIn, TakenOut}
use Rattle.tally.specs.Tally.{lacking, told, shown_of, Shows}
use Rattle.tally.proofs.HoldLaws.{placed, count-is, in_is, full-unfit, places-fit, in-holds, out-holds}

-- what the test of an answer says
pub refused-is : (r : Bool) → not r ≡ true → r ≡ false
refused-is true e = absurd (false≢true e)
refused-is false e = refl

pub granted-is : (r : Bool) → not r ≡ false → r ≡ true
granted-is true e = refl
granted-is false e = absurd (true≢false e)

module _ (rows c : ℕ) where
  pub row-lacks : rows ≤ c → LacksRow rows c true
  row-lacks h = record { lacks = λ e. inl h; lies = λ e. absurd (true≢false e) }

  -- the number of rows is large enough, and the cells decide
  pub row_lies : c < rows → (r : Bool) → r ≡ leb max_rows c → LacksRow rows c r
  row_lies h r is = record { lacks = λ e. inr (leb-true max_rows c (sym is ∙ e)); lies = λ e. record { row = h; cell = leb-false max_rows c (sym is ∙ e) } }

--------------------------------------------------------------------------------
-- The numbers, by the rows that are in

module _ (number : Instance → (ℕ → ℕ) → ℕ → ℕ) (next : (ℕ → ℕ) → ℕ → ℕ → ℕ) (i : Instance) (X : ℕ → ℕ) (c : ℕ) where
  after-refused : number i X c ≢ 0 → after_call number next i X c ≡ X
  unfolding after_call
  after-refused h = rw (ne_eqb _ _ h)

  after-done : number i X c ≡ 0 → after_call number next i X c ≡ next X c
  unfolding after_call
  after-done h = rw (eq-eqb _ _ h)

module _ (i : Instance) (X : ℕ → ℕ) (c : ℕ) where
  put-9 : i.net.rows ≤ c → put_number i X c ≡ number_of Value
  unfolding put_number
  put-9 h = rw (le-leb _ _ h)

  put-18 : c < i.net.rows → X c ≡ 1 → put_number i X c ≡ number_of Inside
  unfolding put_number
  put-18 h e = rw (lt-leb _ _ h, eq-eqb _ _ e)

  pub put-by :
      c < i.net.rows → X c ≡ 0 → put_number i X c ≡ pick (fits_both i.net i.limit (plus X c)) 0 (number_of Full)
  unfolding put_number
  put-by h e =
      let other : X c ≢ 1 = λ p. omega arith in
      rw (lt-leb _ _ h, ne_eqb _ _ other)

  take-9 : i.net.rows ≤ c → take_number i X c ≡ number_of Value
  unfolding take_number
  take-9 h = rw (le-leb _ _ h)

  take-19 : c < i.net.rows → X c ≡ 0 → take_number i X c ≡ number_of Outside
  unfolding take_number
  take-19 h e =
      let other : X c ≢ 1 = λ p. omega arith in
      rw (lt-leb _ _ h, ne_eqb _ _ other)

  take_0 : c < i.net.rows → X c ≡ 1 → take_number i X c ≡ 0
  unfolding take_number
  take_0 h e = rw (lt-leb _ _ h, eq-eqb _ _ e)

--------------------------------------------------------------------------------
-- What the cells tell of a row

module _ (tb : List ℕ) (st : State) (c : ℕ) where
  abbrev own : Tally
  own = tally tb st

  module _ (i : Instance) (X : ℕ → ℕ) (H : Holds i own X) where
    past : Lacks st.rows c → i.net.rows ≤ c
    past (inl h) = omega (arith, H.rows)
    past (inr h) = omega (arith, H.rows_most)

    within : Lies st.rows c → c < i.net.rows
    within h = omega (arith, h.row, H.rows)

    there : Lies st.rows c → get_or st.selection c 0 ≢ 0 → X c ≡ 1
    there h some = bit (X c) (H.choice.bits c (within h)) (λ e. some (in_is i own X H c (within h) ∙ e))
      where
        bit : (n : ℕ) → n ≤ 1 → n ≢ 0 → n ≡ 1
        bit n h k = omega arith

    gone : Lies st.rows c → get_or st.selection c 0 ≡ 0 → X c ≡ 0
    gone h none = sym (in_is i own X H c (within h)) ∙ none

    -- the number told is the one by the rows that are in
    put-told : (n : ℕ) → PutTold tb st.rows st.counts st.selection c n → n ≡ put_number i X c
    put-told n (inl (is, h)) = is ∙ sym (put-9 i X c (past h))
    put-told n (inr (inl (is, h, some))) = is ∙ sym (put-18 i X c (within h) (there h some))
    put-told n (inr (inr (inl (is, h, none, P)))) =
        is
        ∙ sym
        (put-by i X c (within h) (gone h none)
        ∙ ap (λ y. pick y 0 (number_of Full)) (full-unfit i own X H c (within h) (gone h none) P))
    put-told n (inr (inr (inr (is, h, none, P)))) =
        is
        ∙ sym
        (put-by i X c (within h) (gone h none)
        ∙ ap (λ y. pick y 0 (number_of Full))
        (true-both i.net i.limit (plus X c) (places-fit i own X H c (within h) (gone h none) P)))

    take-told : (n : ℕ) → TakeTold st.rows st.selection c n → n ≡ take_number i X c
    take-told n (inl (is, h)) = is ∙ sym (take-9 i X c (past h))
    take-told n (inr (inl (is, h, none))) = is ∙ sym (take-19 i X c (within h) (gone h none))
    take-told n (inr (inr (is, h, some))) = is ∙ sym (take_0 i X c (within h) (there h some))

  -- where there is no such row, 9 is told
  put-lacks : (n : ℕ) → PutTold tb st.rows st.counts st.selection c n → st.rows ≤ c → n ≡ number_of Value
  put-lacks n (inl (is, h)) k = is
  put-lacks n (inr (inl (is, h, some))) k = absurd (omega (arith, h.row))
  put-lacks n (inr (inr (inl (is, h, none, P)))) k = absurd (omega (arith, h.row))
  put-lacks n (inr (inr (inr (is, h, none, P)))) k = absurd (omega (arith, h.row))

  -- a row that the call is done for is there
  pub put-lies : (n : ℕ) → PutTold tb st.rows st.counts st.selection c n → n ≡ 0 → Lies st.rows c
  put-lies n (inl (is, h)) e = absurd (omega arith)
  put-lies n (inr (inl (is, h, some))) e = h
  put-lies n (inr (inr (inl (is, h, none, P)))) e = h
  put-lies n (inr (inr (inr (is, h, none, P)))) e = h

  take-lacks : (n : ℕ) → TakeTold st.rows st.selection c n → st.rows ≤ c → n ≡ number_of Value
  take-lacks n (inl (is, h)) k = is
  take-lacks n (inr (inl (is, h, none))) k = absurd (omega (arith, h.row))
  take-lacks n (inr (inr (is, h, some))) k = absurd (omega (arith, h.row))

  pub take-lies : (n : ℕ) → TakeTold st.rows st.selection c n → n ≡ 0 → Lies st.rows c
  take-lies n (inl (is, h)) e = absurd (omega arith)
  take-lies n (inr (inl (is, h, none))) e = h
  take-lies n (inr (inr (is, h, some))) e = h

  ------------------------------------------------------------------------------
  -- A call on a row, by the number that is told

  module _ (number : Instance → (ℕ → ℕ) → ℕ → ℕ) (next : (ℕ → ℕ) → ℕ → ℕ → ℕ) (n : ℕ)
      (is : (i : Instance) (X : ℕ → ℕ) → Holds i own X → n ≡ number i X c) (lacks : st.rows ≤ c → n ≡ number_of Value)
    where
      -- a refused call changes nothing
      changed-not : n ≢ 0 → Changed number next own c n own
      changed-not some = record {
        holds = λ i X H. (
          is i X H,
          subst (Holds i own) (sym (after-refused number next i X c (λ e. some (is i X H ∙ e)))) H,
        );
        lacks = lacks;
        still = λ e. refl;
      }

      changed-to :
          n ≡ 0 → (t' : Tally) → ((i : Instance) (X : ℕ → ℕ) → Holds i own X → Holds i t' (next X c)) → Changed number next own c n t'
      changed-to none t' holds = record {
        holds = λ i X H. (
          is i X H,
          subst (Holds i t') (sym (after-done number next i X c (sym (is i X H) ∙ none))) (holds i X H),
        );
        lacks = lacks;
        still = λ some. absurd (some none);
      }

  ------------------------------------------------------------------------------
  -- Putting in and taking out

  module _ (n : ℕ) (T : PutTold tb st.rows st.counts st.selection c n) where
    pub put_refused : n ≢ 0 → PutIn own c n own
    put_refused = changed-not put_number plus n (λ i X H. put-told i X H n T) (put-lacks n T)

    pub put-done :
        n ≡ 0 → (k' : List ℕ) → CountedRow true tb st.counts k' c → (x : ℕ) → x ≡ 1 → PutIn own c n (tally tb (placed st k' c x))
    put-done none k' C x one =
        changed-to put_number plus n (λ i X H. put-told i X H n T) (put-lacks n T) none (tally tb (placed st k' c x))
        (λ i X H. subst (λ y. Holds i (tally tb (placed st k' c y)) (plus X c)) (sym one) (holds i X H T))
      where
        holds :
            (i : Instance) (X : ℕ → ℕ) → Holds i own X → PutTold tb st.rows st.counts st.selection c n →
            Holds i (tally tb (placed st k' c 1)) (plus X c)
        holds i X H (inl (is, h)) = absurd (omega arith)
        holds i X H (inr (inl (is, h, some))) = absurd (omega arith)
        holds i X H (inr (inr (inl (is, h, out, P)))) = absurd (omega arith)
        holds i X H (inr (inr (inr (is, h, out, P)))) = in-holds i own X H c (within i X H h) k' (gone i X H h out) P C

  module _ (n : ℕ) (T : TakeTold st.rows st.selection c n) where
    pub take-refused : n ≢ 0 → TakenOut own c n own
    take-refused = changed-not take_number minus n (λ i X H. take-told i X H n T) (take-lacks n T)

    pub take_done :
        n ≡ 0 → (k' : List ℕ) → CountedRow false tb st.counts k' c → (x : ℕ) → x ≡ 0 → TakenOut own c n (tally tb (placed st k' c x))
    take_done none k' C x out =
        changed-to take_number minus n (λ i X H. take-told i X H n T) (take-lacks n T) none (tally tb (placed st k' c x))
        (λ i X H. subst (λ y. Holds i (tally tb (placed st k' c y)) (minus X c)) (sym out) (holds i X H T))
      where
        holds :
            (i : Instance) (X : ℕ → ℕ) → Holds i own X → TakeTold st.rows st.selection c n →
            Holds i (tally tb (placed st k' c 0)) (minus X c)
        holds i X H (inl (is, h)) = absurd (omega arith)
        holds i X H (inr (inl (is, h, gone))) = absurd (omega arith)
        holds i X H (inr (inr (is, h, some))) = out-holds i own X H c (within i X H h) k' (there i X H h some) C

--------------------------------------------------------------------------------
-- A group's count

module _ (st : State) where
  -- what the node of a group tells
  node-tells :
      (i : Instance) (tb : List ℕ) (X : ℕ → ℕ) → Holds i (tally tb st) X → (side g : ℕ) →
      shown_of i.net X side g
      ≡ pick (leb 512 (node_of st.cards st.shops side g)) lacking
      (told (get_or st.counts (node_of st.cards st.shops side g) 0))
  unfolding shown_of
  node-tells i tb X H zero g =
      elim (dec_lt g i.net.cards) [
        | yes h ↦
            let k : g < st.cards = omega (arith, H.cards) in
            let low : g < 512 = omega (arith, H.shops, H.groups_most) in
            rw (lt-ltb _ _ h, lt-ltb _ _ k, lt-leb _ _ low)
            (ap told (sym (count-is i (tally tb st) X H g (omega (arith, H.shops)))))
        | no h ↦
            let j : i.net.cards ≤ g = omega arith in
            let k : st.cards ≤ g = omega (arith, H.cards) in
            rw (le-ltb _ _ j, le-ltb _ _ k)
      ]
  node-tells i tb X H (suc zero) g =
      elim (dec_lt g st.shops) [
        | yes h ↦
            let j : i.net.cards + g < i.net.groups = omega (arith, H.shops) in
            let cards : st.cards < 512 = omega (arith, H.cards, H.shops, H.groups_most) in
            let both : st.cards + g < 512 = omega (arith, H.cards, H.shops, H.groups_most) in
            rw (lt-ltb _ _ j, lt-leb _ _ h, lt-leb _ _ cards, lt-leb _ _ both)
            (ap told
            (sym
            (ap (λ v. get_or st.counts v 0) (ap (λ n. n + g) H.cards)
            ∙ count-is i (tally tb st) X H (i.net.cards + g) j)))
        | no h ↦
            let j : i.net.groups ≤ i.net.cards + g = omega (arith, H.shops) in
            let k : st.shops ≤ g = omega arith in
            rw (le-ltb _ _ j, le-leb _ _ k)
      ]
  node-tells i tb X H (suc (suc side)) g =
      rw (ne_eqb (suc (suc side)) 0 (λ e. omega arith), ne_eqb (suc (suc side)) 1 (λ e. omega arith))

  -- a tally without groups has no node
  no_node : st.cards ≡ 0 → st.shops ≡ 0 → (side g : ℕ) → node_of st.cards st.shops side g ≡ 512
  no_node p q zero g =
      let k : st.cards ≤ g = omega arith in
      rw (le-ltb _ _ k)
  no_node p q (suc zero) g =
      let k : st.shops ≤ g = omega arith in
      rw (le-leb _ _ k)
  no_node p q (suc (suc side)) g =
      rw (ne_eqb (suc (suc side)) 0 (λ e. omega arith), ne_eqb (suc (suc side)) 1 (λ e. omega arith))

  module _ (side g n : ℕ) (is : n ≡ node_of st.cards st.shops side g) where
    pub show-lacks : (m : ℕ) → m ≡ number_of Value → 512 ≤ n → Shows st side g (record { refusal = m; count = 0 })
    show-lacks m nine h = record {
      holds = λ i tb X H.
          let k : 512 ≤ node_of st.cards st.shops side g = omega arith in
          ap (λ x. record { refusal = x; count = 0 }) nine ∙ sym (node-tells i tb X H side g ∙ rw (le-leb _ _ k));
      lacks = λ p q. ap (λ x. record { refusal = x; count = 0 }) nine;
    }

    pub show-count : n < 512 → Shows st side g (record { refusal = 0; count = get_or st.counts n 0 })
    show-count h = record {
      holds = λ i tb X H.
          let k : node_of st.cards st.shops side g < 512 = omega arith in
          sym (node-tells i tb X H side g ∙ rw (lt-leb _ _ k) (ap (λ v. told (get_or st.counts v 0)) (sym is)));
      lacks = λ p q. absurd (omega (arith, no_node p q side g));
    }
