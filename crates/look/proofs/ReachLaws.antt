-- Laws of a search, over functions.
--   reached-most reached-more reached-one    how many nodes are reached
--   arc-row arc-child      the arc of an item
--   step-item              a step from u is by u's up arc or by that of an item of u
--   unlisted-open unlisted-closed unlisted-step      the arc down to an item that is not listed, and no step by one
--   step-head              a step of an arc from u leads to one node
--   reach-later            places that are early are early later on
--   reach-queue reach-more    places past the last do not matter; one node more is reached
--   grew_none grew_then    a search that goes on
--   took-grew passed-grew  by one arc
--   reach-first            one node is reached
use mathlib.Core.Path.{◌≡◌, refl, sym, ap, ◌∙◌}
use mathlib.Core.Logic.{◌⊎◌, ◌≢◌, inl, inr, ⊎_elim}
use mathlib.Core.Bool.{Bool, true, false}
use Prim.Native.Nat.{ℕ, ◌+◌, ◌-◌, ◌≤◌, ◌<◌}
use native.Mathlib.Decide.{ℕ_discrete, dec_lt}
use native.Mathlib.Omega.{arith}
use native.Mathlib.Nat.{le_refl}
use Rattle.theory.specs.Sum.{is}
use borrow.Author.Tests.{lt-ltb, le-ltb}
use Rattle.theory.specs.Network.{Network}
use Rattle.theory.specs.Formed.{Formed}
use Rattle.theory.specs.Residual.{Residual, Arc}
use Rattle.theory.specs.Residual.Arc.{down, up, puts, takes}
use Rattle.theory.specs.Turn.{Puts}
use Rattle.theory.proofs.SumLaws.{sum-le, sum_one, sum-zero, sum-change, is-yes, is-no, is-small}
use Rattle.theory.proofs.ResidualLaws.{one-ends, arc-down}
use Rattle.theory.proofs.TurnLaws.{puts-at}
use Rattle.scratch.specs.Map.{arc_in}
use Rattle.residual.specs.Items.{ChildItem, Item, ItemArc, Unlisted, rise_at, fall_at, arc_at}
use Rattle.look.specs.Reach.{Step, reached, pred_in, Come, Reach, Grew, Took, Passed}
use Rattle.residual.proofs.ListLaws.{child-of}
use Rattle.look.proofs.LabelLaws.{arc-in-fresh, pred-puts, spread_none, spread-then, spread-puts}

--------------------------------------------------------------------------------
-- How many nodes are reached

pub reached-most : (pred : ℕ → ℕ) (m : ℕ) → reached pred m ≤ m
unfolding reached
reached-most pred m = omega (arith, sum-le m {g = λ v. 1} (λ v l. is-small (dec_lt 0 (pred v))), sum_one m)

pub reached-more :
    (pred pred' : ℕ → ℕ) (m v x : ℕ) → v < m → pred v ≡ 0 → 0 < x → Puts pred pred' v x → reached pred' m ≡ reached pred m + 1
unfolding reached
reached-more pred pred' m v x l z p P =
    omega (
      arith,
      sum-change m v {f = λ v. is (dec_lt 0 (pred' v))} {g = λ v. is (dec_lt 0 (pred v))} l (λ i h n. ap (λ (k : ℕ). is (dec_lt 0 k)) (P.else i n)),
      is-no (dec_lt 0 (pred v)) (λ h. omega arith),
      is-yes (dec_lt 0 (pred' v)) (omega (arith, P.here)),
    )

-- one node is reached
pub reached-one :
    (pred : ℕ → ℕ) (m v : ℕ) → v < m → 0 < pred v → ((i : ℕ) → i < m → (i ≡ v → ⊥) → pred i ≡ 0) → reached pred m ≡ 1
unfolding reached
reached-one pred m v l p z =
    omega (
      arith,
      sum-change m v {f = λ v. is (dec_lt 0 (pred v))} {g = λ v. 0} l (λ i h n. is-no (dec_lt 0 (pred i)) (λ k. omega (arith, z i h n))),
      is-yes (dec_lt 0 (pred v)) p,
      sum-zero m,
    )

--------------------------------------------------------------------------------
-- A search goes on

pub arc-row : (d : Network) (back : Bool) {c : ℕ} → c < d.rows → d.groups + c ≡ arc_at d back c
arc-row d back {c} l = simp (lt-ltb c d.rows l)

pub arc-child : (d : Network) (back : Bool) {j : ℕ} → d.rows ≤ j → fall_at d back (j - d.rows) ≡ arc_at d back j
arc-child d back {j} l = simp (le-ltb j d.rows l)

-- the child as an item
child-code : (d : Network) (back : Bool) (v : ℕ) → fall_at d back v ≡ arc_at d back (d.rows + v)
child-code d back v =
    let k : v ≡ d.rows + v - d.rows = omega arith in
    ap (fall_at d back) k ∙ arc-child d back (omega arith)

pub step-item :
    (back : Bool) (r : Residual) (S spare : ℕ → ℕ) → r.free ≤ r.net.rows → (e u v : ℕ) → Step back r S spare e u v →
    ((u < r.net.groups) × (e ≡ rise_at r.net back u)) ⊎ ItemArc r back u e
step-item false r S spare f e u v (down D) =
    inr (record {
      j = r.net.rows + e;
      item = inr (record { v = e; group = D.group; code = refl; at = sym D.tail; even = omega (arith, D.slack) });
      live = omega arith;
      code = child-code r.net false e;
    })
step-item false r S spare f e u v (up U) = inl (U.group, U.code)
step-item false r S spare f e u v (puts I) =
    inr (record {
      j = I.c;
      item = inl (record { row = I.row; at = inl (sym I.tail); even = omega (arith, I.slack) });
      live = I.live;
      code = I.code ∙ arc-row r.net false I.row;
    })
step-item false r S spare f e u v (takes O) =
    inr (record {
      j = O.c;
      item = inl (record { row = O.row; at = inr (sym O.tail); even = omega (arith, O.slack) });
      live = O.live;
      code = O.code ∙ arc-row r.net false O.row;
    })
step-item true r S spare f e u v (down D) = inl (omega (arith, D.head, D.group), sym D.head)
step-item true r S spare f e u v (up U) =
    inr (record {
      j = r.net.rows + v;
      item = inr (record { v = v; group = U.group; code = refl; at = sym U.head; even = omega (arith, U.slack) });
      live = omega arith;
      code = U.code ∙ child-code r.net true v;
    })
step-item true r S spare f e u v (puts I) =
    inr (record {
      j = I.c;
      item = inl (record { row = I.row; at = inr (sym I.head); even = omega (arith, I.slack) });
      live = I.live;
      code = I.code ∙ arc-row r.net true I.row;
    })
step-item true r S spare f e u v (takes O) =
    inr (record {
      j = O.c;
      item = inl (record { row = O.row; at = inl (sym O.head); even = omega (arith, O.slack) });
      live = O.live;
      code = O.code ∙ arc-row r.net true O.row;
    })

-- an item that is not listed is a card group below the source, and the arc down to it is open exactly where it has a place
module _ (r : Residual) (f : Formed r.net) {spare : ℕ → ℕ} {u j : ℕ} (h : Item r u j) (N : Unlisted r spare u j) where
  unlisted-child : ChildItem r u j
  unlisted-child = child-of r (omega (arith, N.code)) h

  unlisted-is : unlisted-child.v ≡ N.v
  unlisted-is = omega (arith, N.code, unlisted-child.code)

  unlisted-group : N.v < r.net.groups
  unlisted-group = omega (arith, unlisted-is, unlisted-child.group)

  unlisted-above : r.net.parent N.v ≡ r.net.groups
  unlisted-above = ap r.net.parent (sym unlisted-is) ∙ unlisted-child.at ∙ N.source

  pub unlisted-open : (S spare' : ℕ → ℕ) → 0 < spare' N.v → Arc r S spare' N.v r.net.groups N.v 0
  unlisted-open S spare' l =
      down (record {
        group = unlisted-group;
        tail = sym unlisted-above;
        head = refl;
        room = λ m. l;
        slack =
            omega (
              arith,
              unlisted-child.even,
              ap (λ (x : ℕ). r.price (r.net.parent x)) unlisted-is,
              ap r.price unlisted-is,
            );
      })

  pub unlisted-closed : (S : ℕ → ℕ) {a b : ℕ} → Arc r S spare N.v a b 0 → ⊥
  unlisted-closed S {a} {b} A =
      let D = arc-down r S spare N.v a b 0 A unlisted-group in
      elim (dec_lt N.v r.net.cards) [
        | yes l ↦ omega (arith, D.room l, N.full)
        | no l ↦
            ⊎_elim
            (λ w. omega (arith, w.1, unlisted-above, unlisted-group))
            (λ w. omega (arith, w, unlisted-above))
            (f.shop_parent N.v (omega arith) unlisted-group)
      ]

-- no step leads from a node by an item of it that is not listed, and the source is not gone on from against the arcs
pub unlisted-step :
    (back : Bool) (r : Residual) (S spare : ℕ → ℕ) → Formed r.net → {e u j : ℕ} (v : ℕ) → (back ≡ true → u ≢ r.net.groups) →
    Item r u j → Unlisted r spare u j → e ≡ arc_at r.net back j → Step back r S spare e u v → ⊥
unlisted-step true r S spare f v aside h N i A = aside refl N.source
unlisted-step false r S spare f {e} {u} {j} v aside h N i A =
    let m : e ≡ N.v = i ∙ ap (arc_at r.net false) N.code ∙ sym (child-code r.net false N.v) in
    unlisted-closed r f h N S (rw m at A)

pub step-head :
    (back : Bool) (r : Residual) (S spare : ℕ → ℕ) (e u v w : ℕ) → Step back r S spare e u v → Step back r S spare e u w → v ≡ w
step-head false r S spare e u v w A B = (one-ends r S spare A B).1
step-head true r S spare e u v w A B = (one-ends r S spare A B).0

module _ (back : Bool) (r : Residual) (S spare : ℕ → ℕ) where
  pub reach-later :
      {pred queue : ℕ → ℕ} {h k n : ℕ} → h ≤ k → Reach back r S spare pred queue h n → Reach back r S spare pred queue k n
  reach-later l R = record {
    some = R.some;
    size = R.size;
    node = R.node;
    seen = R.seen;
    spot = R.spot;
    come = λ i m z.
        let C = R.come i m z in
        record { j = C.j; before = C.before; early = omega (arith, C.early); by = C.by; is = C.is; arc = C.arc };
  }

  -- past its n places the queue does not matter
  pub reach-queue :
      {pred queue queue' : ℕ → ℕ} {h n : ℕ} → Reach back r S spare pred queue h n → ((i : ℕ) → i < n → queue' i ≡ queue i) →
      Reach back r S spare pred queue' h n
  reach-queue {pred} R q = record {
    some = R.some;
    size = R.size;
    node = λ i m. rw (q i m) (R.node i m);
    seen = λ i m. rw (q i m) (R.seen i m);
    spot = λ v m p. let w = R.spot v m p in (w.0, w.1, q w.0 w.1 ∙ w.2);
    come = λ i m z.
        let C = R.come i m z in
        record {
          j = C.j;
          before = C.before;
          early = C.early;
          by = C.by;
          is = ap pred (q i m) ∙ C.is;
          arc = rw (q i m, q C.j (omega (arith, C.before))) C.arc;
        };
  }

  -- one node more, by a step from place h
  module _
      {pred pred' queue queue' : ℕ → ℕ} {h k n u v e : ℕ} (R : Reach back r S spare pred queue k n) (l : h < n) (early : h < k)
      (at : queue h ≡ u) (node : v < r.net.groups + 2) (arc : Step back r S spare e u v) (dark : pred v ≡ 0)
      (more : Puts pred pred' v (e + 1)) (puts : Puts queue queue' n v)
    where
      old : (i : ℕ) → i < n → queue' i ≡ queue i
      old i m = puts.else i (λ k. omega arith)

      kept : (x : ℕ) → 0 < pred x → pred' x ≡ pred x
      kept x p = more.else x (λ k. omega (arith, ap pred k, dark))

      came-old : (i : ℕ) → i < n → 0 < i → Come back r S spare pred' queue' k i
      came-old i m z =
          let C = R.come i m z in
          record {
            j = C.j;
            before = C.before;
            early = C.early;
            by = C.by;
            is = ap pred' (old i m) ∙ kept (queue i) (R.seen i m) ∙ C.is;
            arc = rw (old i m, old C.j (omega (arith, C.before))) C.arc;
          }

      came-new : Come back r S spare pred' queue' k n
      came-new = record {
        j = h;
        before = l;
        early = early;
        by = e;
        is = ap pred' puts.here ∙ more.here;
        arc = rw (puts.here, old h l, at) arc;
      }

      pub reach-more : Reach back r S spare pred' queue' k (n + 1)
      reach-more = record {
        some = omega arith;
        size = omega (arith, R.size, reached-more pred pred' (r.net.groups + 2) v (e + 1) node dark (omega arith) more);
        node = λ i m.
            elim (ℕ_discrete i n) [
              | yes k ↦ rw (k, puts.here) node
              | no k ↦ rw (old i (omega arith)) (R.node i (omega arith))
            ];
        seen = λ i m.
            elim (ℕ_discrete i n) [
              | yes k ↦ rw (k, puts.here) (omega (arith, more.here))
              | no k ↦
                  let w = R.seen i (omega arith) in
                  rw (old i (omega arith)) (omega (arith, w, kept (queue i) w))
            ];
        spot = λ x m p. ⊎_elim
            (λ w. (n, omega arith, puts.here ∙ sym w.0))
            (λ w.
            let z = R.spot x m (rw w.1 at p) in
            (z.0, omega (arith, z.1), old z.0 z.1 ∙ z.2))
            (puts-at more x);
        come = λ i m z. elim (ℕ_discrete i n) [ yes k ↦ rw k came-new | no k ↦ came-old i (omega arith) z ];
      }

  module _ (b : ℕ) where
    pub grew_none :
        {label queue : ℕ → ℕ} {h n : ℕ} → Reach back r S spare (pred_in b label) queue h n →
        Grew back r S spare b label queue n label queue h n
    grew_none {label} {n = n} R = record { grow = le_refl n; keep = λ i l. refl; spread = spread_none b label; reach = R }

    pub grew_then :
        {p q p' q' p'' q'' : ℕ → ℕ} {h n n' n'' : ℕ} →
        Grew back r S spare b p q n p' q' h n' → Grew back r S spare b p' q' n' p'' q'' h n'' → Grew back r S spare b p q n p'' q'' h n''
    grew_then {p} {p' = p'} {p'' = p''} A B = record {
      grow = omega (arith, A.grow, B.grow);
      keep = λ i l. B.keep i (omega (arith, A.grow)) ∙ A.keep i l;
      spread = spread-then b p p' p'' A.spread B.spread;
      reach = B.reach;
    }

    -- from place h
    module _
        {label queue label' queue' : ℕ → ℕ} {h n n' u e : ℕ} (R : Reach back r S spare (pred_in b label) queue (h + 1) n)
        (l : h < n) (at : queue h ≡ u) (T : Took back r S spare b label queue n label' queue' n' u e)
      where
        took-reach : Reach back r S spare (pred_in b label') queue' (h + 1) (n + 1)
        took-reach =
            reach-more R l (omega arith) at T.node T.arc (ap (arc_in b) T.new ∙ arc-in-fresh b)
            (pred-puts b label label' T.v e T.small T.label_puts) T.queue_puts

        pub took-grew : Grew back r S spare b label queue n label' queue' (h + 1) n'
        took-grew =
            rw T.more (record {
              grow = omega arith;
              keep = λ i m. T.queue_puts.else i (λ k. omega arith);
              spread = spread-puts b label label' T.v e T.new T.small T.label_puts;
              reach = took-reach;
            })

    pub passed-grew :
        {label queue label' queue' : ℕ → ℕ} {h n n' u e : ℕ} → Reach back r S spare (pred_in b label) queue h n →
        Passed back r S spare b label queue n label' queue' n' u e → Grew back r S spare b label queue n label' queue' h n'
    passed-grew {label} {n = n} R T =
        rw (T.label_same, T.same) (record {
          grow = le_refl n;
          keep = T.queue_same;
          spread = spread_none b label;
          reach = reach-queue R T.queue_same;
        })

  pub reach-first :
      (pred queue : ℕ → ℕ) (start : ℕ) → start < r.net.groups + 2 → 0 < pred start →
      ((v : ℕ) → v < r.net.groups + 2 → (v ≡ start → ⊥) → pred v ≡ 0) → queue 0 ≡ start → Reach back r S spare pred queue 0 1
  reach-first pred queue start l p z q = record {
    some = omega arith;
    size = sym (reached-one pred (r.net.groups + 2) start l p z);
    node = λ i h. let k : i ≡ 0 = omega arith in rw (k, q) l;
    seen = λ i h. let k : i ≡ 0 = omega arith in rw (k, q) p;
    spot = λ v h m.
        elim (ℕ_discrete v start) [
          | yes k ↦ (0, omega arith, q ∙ sym k)
          | no k ↦ absurd (omega (arith, z v h k))
        ];
    come = λ i h m. absurd (omega arith);
  }
