-- Laws of a walk, over functions. The nodes from the source to the one where the walk is stand on a stack.
--   push push-old push-new     a stack, and one node more
--   Via Trail              the walk came from the source to u by d arcs between the nodes of a stack
--   Sweeping               no item before its node's cell leads to a fresh node, nor does an arc of a reached node that is not on the stack
--   Walking                both, the second where it held at the start, after i steps
--   swept-spread ahead-next    labels are given, and the cell of a node goes on
--   trail-node trail-seen trail-deep trail-via tail-is     the node where the walk is, and the one that it came from
--   trail-most trail-begin trail-place trail-stands    the way back can begin there
--   walking-first walking-next walking-low walking-stuck   the start, one step, the number of steps, and the end where there is no way
use mathlib.Core.Path.{◌≡◌, refl, sym, ap, subst, ◌∙◌}
use mathlib.Core.Logic.{◌⊎◌, ◌≢◌, inl, inr, ⊎_elim}
use mathlib.Core.Bool.{Bool, false}
use Prim.Native.Nat.{ℕ, ◌+◌, ◌*◌, ◌-◌, ◌≤◌, ◌<◌}
use native.Mathlib.Decide.{ℕ_discrete, dec_lt}
use native.Mathlib.Omega.{arith}
use lib.Dec.{ltb}
use borrow.Author.Tests.{lt-ltb, le-ltb}
use Rattle.theory.specs.Sum.{pick}
use Rattle.theory.specs.Formed.{Formed}
use Rattle.theory.specs.Residual.{Residual}
use Rattle.theory.specs.Turn.{Puts}
use Rattle.theory.specs.Walk.{place, Came, Stands}
use Rattle.theory.proofs.CutLaws.{head-node}
use Rattle.theory.proofs.TurnLaws.{puts-at}
use Rattle.theory.proofs.WalkLaws.{place-first, stands-queue}
use Rattle.exchange.specs.Plain.{Forward}
use Rattle.exchange.specs.Plain.Forward.{source, onward}
use Rattle.scratch.specs.Map.{arc_in}
use Rattle.residual.specs.Items.{ItemArc}
use Rattle.look.specs.Reach.{Step, Spread, pred_in, reached}
use Rattle.look.proofs.LabelLaws.{arc-in-fresh, pred-puts, spread-puts}
use Rattle.look.proofs.ReachLaws.{step-item, reached-most, reached-more, reached-one}
use Rattle.walks.specs.Walk.{Ahead, Beyond, Fresh, Barren, Swept, Advanced, Onward, Tail, Stride}

--------------------------------------------------------------------------------
-- The stack

abbrev pub push : (ℕ → ℕ) → ℕ → ℕ → ℕ → ℕ
push stack d w i = pick (ltb d i) w (stack i)

pub push-old : (stack : ℕ → ℕ) (d w i : ℕ) → i ≤ d → push stack d w i ≡ stack i
push-old stack d w i l = ap (λ (x : Bool). pick x w (stack i)) (le-ltb d i l)

pub push-new : (stack : ℕ → ℕ) (d w i : ℕ) → d < i → push stack d w i ≡ w
push-new stack d w i l = ap (λ (x : Bool). pick x w (stack i)) (lt-ltb d i l)

push-each :
    (stack : ℕ → ℕ) (d w : ℕ) (Q : ℕ → Type 0) → ((i : ℕ) → i ≤ d → Q (stack i)) → Q w → (i : ℕ) → i ≤ d + 1 →
    Q (push stack d w i)
push-each stack d w Q f q i l =
    elim (dec_lt d i) [
      | yes h ↦ subst Q (sym (push-new stack d w i h)) q
      | no h ↦ subst Q (sym (push-old stack d w i (omega arith))) (f i (omega arith))
    ]

module _ (r : Residual) (S spare : ℕ → ℕ) (b : ℕ) where
  pub record Via (label : ℕ → ℕ) (v w : ℕ) : Type 0 where
    pub by : ℕ
    pub is : pred_in b label w ≡ by + 1
    pub arc : Step false r S spare by v w

  pub record Trail (label stack : ℕ → ℕ) (d u : ℕ) : Type 0 where
    pub begin : stack 0 ≡ r.net.groups
    pub last : stack d ≡ u
    pub node : (i : ℕ) → i ≤ d → stack i < r.net.groups + 2
    pub seen : (i : ℕ) → i ≤ d → 0 < pred_in b label (stack i)
    pub aside : (i : ℕ) → 0 < i → i ≤ d → stack i ≢ r.net.groups
    pub came : (i : ℕ) → i < d → Via label (stack i) (stack (i + 1))
    pub few : d < reached (pred_in b label) (r.net.groups + 2)
    pub named : (v : ℕ) → v < r.net.groups + 2 → (label v ≡ b) ⊎ (0 < pred_in b label v)
    pub from : (v : ℕ) → v < r.net.groups + 2 → 0 < pred_in b label v → Forward r S spare v

  pub record Sweeping (label queue stack : ℕ → ℕ) (d : ℕ) : Type 0 where
    pub swept : Swept r S spare b label queue
    pub done :
        (v : ℕ) → v < r.net.groups + 2 → 0 < pred_in b label v →
        ((i : ℕ) × ((i ≤ d) × (stack i ≡ v))) ⊎ ((e : ℕ) → Fresh r S spare b label e v → ⊥)

  pub record Walking (label₀ queue₀ label queue : ℕ → ℕ) (u i : ℕ) : Type 0 where
    pub stack : ℕ → ℕ
    pub d : ℕ
    pub trail : Trail label stack d u
    pub steps : i + d + 2 ≡ 2 * reached (pred_in b label) (r.net.groups + 2)
    pub ahead : Ahead r queue
    pub sweep : Swept r S spare b label₀ queue₀ → Sweeping label queue stack d

  -- a node that is fresh was fresh before
  fresh-before :
      (label label' : ℕ → ℕ) {e u : ℕ} → Spread b label label' → Fresh r S spare b label' e u → Fresh r S spare b label e u
  fresh-before label label' A F = record {
    v = F.v;
    arc = F.arc;
    new = ⊎_elim (λ i. sym i ∙ F.new) (λ w. w.0) (A F.v);
  }

  pub swept-spread :
      (label label' queue : ℕ → ℕ) → Spread b label label' → Swept r S spare b label queue → Swept r S spare b label' queue
  swept-spread label label' queue A H v l e w lo hi F = H v l e w lo hi (fresh-before label label' A F)

  module _ {label queue queue' : ℕ → ℕ} {u : ℕ} (A : Advanced r S spare b label queue queue' u) where
    pub ahead-next : Ahead r queue → Ahead r queue'
    ahead-next H v l =
        elim (ℕ_discrete v u) [
          | yes k ↦ rw k A.point
          | no k ↦ rw (A.else v k) (H v l)
        ]

    swept-next : u < r.net.groups + 2 → Swept r S spare b label queue → Swept r S spare b label queue'
    swept-next node H v l =
        elim (ℕ_discrete v u) [
          | yes k ↦ subst (λ (x : ℕ). Barren r S spare b label x 0 (queue' x)) (sym k) here
          | no k ↦ λ e w lo hi F. H v l e w lo (omega (arith, A.else v k)) F
        ]
      where
        here : Barren r S spare b label u 0 (queue' u)
        here e w lo hi F =
            elim (dec_lt w.j (queue u)) [
              | yes h ↦ H u node e w lo h F
              | no h ↦ A.barren e w (omega arith) hi F
            ]

  -- a node is done where its items are passed and no other arc leads to a fresh node
  done-node :
      (label queue : ℕ → ℕ) (u : ℕ) → r.free ≤ r.net.rows → u < r.net.groups + 2 → Swept r S spare b label queue →
      ((e : ℕ) → Beyond r u (queue u) (ltb u r.net.groups) e → Fresh r S spare b label e u → ⊥) →
      (e : ℕ) → Fresh r S spare b label e u → ⊥
  done-node label queue u free node H none e F =
      ⊎_elim
      (λ k. none e (inl (lt-ltb u r.net.groups k.0, k.1)) F)
      (λ (w : ItemArc r false u e).
      elim (dec_lt w.j (queue u)) [
        | yes l ↦ H u node e w (omega arith) l F
        | no l ↦ none e (inr (w, omega arith)) F
      ])
      (step-item false r S spare free e u F.v F.arc)

  pub walking-first :
      (label queue : ℕ → ℕ) → 0 < pred_in b label r.net.groups →
      ((v : ℕ) → v < r.net.groups + 2 → v ≢ r.net.groups → label v ≡ b) → Ahead r queue →
      Walking label queue label queue r.net.groups 0
  walking-first label queue some else ahead = record {
    stack = λ i. r.net.groups;
    d = 0;
    trail = record {
      begin = refl;
      last = refl;
      node = λ i l. omega arith;
      seen = λ i l. some;
      aside = λ i l m. absurd (omega arith);
      came = λ i l. absurd (omega arith);
      few = omega (arith, one);
      named = λ v l. elim (ℕ_discrete v r.net.groups) [ yes k ↦ inr (rw k some) | no k ↦ inl (else v l k) ];
      from = λ v l p.
          elim (ℕ_discrete v r.net.groups) [
            | yes k ↦ rw k source
            | no k ↦ absurd (omega (arith, dark v l k))
          ];
    };
    steps = omega (arith, one);
    ahead = ahead;
    sweep = λ H.
        record {
          swept = H;
          done = λ v l p.
              elim (ℕ_discrete v r.net.groups) [
                | yes k ↦ inl (0, (omega arith, sym k))
                | no k ↦ absurd (omega (arith, dark v l k))
              ];
        };
  }
    where
      dark : (v : ℕ) → v < r.net.groups + 2 → v ≢ r.net.groups → pred_in b label v ≡ 0
      dark v l k = ap (arc_in b) (else v l k) ∙ arc-in-fresh b

      one : reached (pred_in b label) (r.net.groups + 2) ≡ 1
      one = reached-one (pred_in b label) (r.net.groups + 2) r.net.groups (omega arith) some dark

  -- a step on, to w
  module _
      {label label' stack : ℕ → ℕ} {d u w : ℕ} (T : Trail label stack d u) (O : Onward r S spare b label label' u w)
      (node : w < r.net.groups + 2)
    where
      more : Puts (pred_in b label) (pred_in b label') w (O.by + 1)
      more = pred-puts b label label' w O.by O.small O.puts

      dark : pred_in b label w ≡ 0
      dark = ap (arc_in b) O.new ∙ arc-in-fresh b

      kept : (x : ℕ) → 0 < pred_in b label x → pred_in b label' x ≡ pred_in b label x
      kept x p = more.else x (λ k. omega (arith, ap (pred_in b label) k, dark))

      spread-on : Spread b label label'
      spread-on = spread-puts b label label' w O.by O.new O.small O.puts

      seen-u : 0 < pred_in b label u
      seen-u = rw T.last at (T.seen d (omega arith))

      reached-on : reached (pred_in b label') (r.net.groups + 2) ≡ reached (pred_in b label) (r.net.groups + 2) + 1
      reached-on = reached-more (pred_in b label) (pred_in b label') (r.net.groups + 2) w (O.by + 1) node dark (omega arith) more

      came-on : (i : ℕ) → i < d + 1 → Via label' (push stack d w i) (push stack d w (i + 1))
      came-on i l =
          elim (dec_lt i d) [
            | yes h ↦
                let via = T.came i h in
                rw (push-old stack d w i (omega arith), push-old stack d w (i + 1) (omega arith)) (record {
                  by = via.by;
                  is = kept (stack (i + 1)) (T.seen (i + 1) (omega arith)) ∙ via.is;
                  arc = via.arc;
                })
            | no h ↦
                let k : i ≡ d = omega arith in
                rw (k, push-old stack d w d (omega arith), push-new stack d w (d + 1) (omega arith), T.last) (record {
                  by = O.by;
                  is = more.here;
                  arc = O.arc;
                })
          ]

      trail-on : Trail label' (push stack d w) (d + 1) w
      trail-on = record {
        begin = push-old stack d w 0 (omega arith) ∙ T.begin;
        last = push-new stack d w (d + 1) (omega arith);
        node = push-each stack d w (λ x. x < r.net.groups + 2) T.node node;
        seen =
            push-each stack d w (λ x. 0 < pred_in b label' x)
            (λ i l. let p = T.seen i l in omega (arith, p, kept (stack i) p)) (omega (arith, more.here));
        aside = λ i z l.
            elim (dec_lt d i) [
              | yes h ↦
                  rw (push-new stack d w i h)
                  (λ k. omega (arith, ap (pred_in b label) (k ∙ sym T.begin), dark, T.seen 0 (omega arith)))
              | no h ↦ rw (push-old stack d w i (omega arith)) (T.aside i z (omega arith))
            ];
        came = came-on;
        few = omega (arith, T.few, reached-on);
        named = λ v l.
            elim (puts-at O.puts v) [
              | inl k ↦ inr (omega (arith, ap (pred_in b label') k.0, more.here))
              | inr k ↦
                  ⊎_elim
                  (λ z. inl (k.1 ∙ z))
                  (λ p. inr (omega (arith, p, kept v p)))
                  (T.named v l)
            ];
        from = λ v l p.
            elim (puts-at more v) [
              | inl k ↦ rw k.0 (onward O.by u w (T.from u u-node seen-u) O.arc)
              | inr k ↦ T.from v l (omega (arith, k.1, p))
            ];
      }
        where
          u-node : u < r.net.groups + 2
          u-node = rw T.last at (T.node d (omega arith))

      sweeping-on :
          (queue queue' : ℕ → ℕ) → Advanced r S spare b label queue queue' u → Sweeping label queue stack d →
          Sweeping label' queue' (push stack d w) (d + 1)
      sweeping-on queue queue' A X = record {
        swept = swept-spread label label' queue' spread-on (swept-next A (rw T.last at (T.node d (omega arith))) X.swept);
        done = λ v l p.
            elim (puts-at more v) [
              | inl k ↦ inl (d + 1, (omega arith, push-new stack d w (d + 1) (omega arith) ∙ sym k.0))
              | inr k ↦
                  ⊎_elim
                  (λ q. inl (q.0, (omega (arith, q.1.0), push-old stack d w q.0 q.1.0 ∙ q.1.1)))
                  (λ f. inr (λ e F. f e (fresh-before label label' spread-on F)))
                  (X.done v l (omega (arith, k.1, p)))
            ];
      }

  -- a step back
  module _ {label stack : ℕ → ℕ} {d u : ℕ} (T : Trail label stack d u) where
    pub trail-node : u < r.net.groups + 2
    trail-node = rw T.last at (T.node d (omega arith))

    pub trail-seen : 0 < pred_in b label u
    trail-seen = rw T.last at (T.seen d (omega arith))

    pub trail-source : u ≡ r.net.groups → d ≡ 0
    trail-source k =
        elim (dec_lt 0 d) [
          | yes l ↦ absurd (T.aside d l (omega arith) (T.last ∙ k))
          | no l ↦ omega arith
        ]

    -- in the stack the way back can begin at u
    module _ (most : d + 1 ≤ r.net.groups + 2) where
      pub trail-place : place stack (r.net.groups + 2) u ≤ d
      trail-place = place-first (r.net.groups + 2) stack u d (omega (arith, most)) T.last

      came-place : (i : ℕ) → i < d + 1 → 0 < i → Came r S spare (pred_in b label) stack i
      came-place i l z =
          let via = T.came (i - 1) (omega arith) in
          let k : i - 1 + 1 ≡ i = omega arith in
          record {
            j = i - 1;
            before = omega arith;
            by = via.by;
            is = ap (λ (y : ℕ). pred_in b label (stack y)) (sym k) ∙ via.is;
            arc = subst (λ (y : ℕ). Step false r S spare via.by (stack (i - 1)) (stack y)) k via.arc;
          }

      pub trail-stands : Stands r S spare (pred_in b label) (place stack (r.net.groups + 2)) r.net.groups u
      trail-stands =
          subst (λ (s : ℕ). Stands r S spare (pred_in b label) (place stack (r.net.groups + 2)) s u) T.begin
          (stands-queue r stack (r.net.groups + 2) (d + 1) most came-place u (omega (arith, trail-place)))

    pub trail-begin : 0 < pred_in b label r.net.groups
    trail-begin = subst (λ (s : ℕ). 0 < pred_in b label s) T.begin (T.seen 0 (omega arith))

    pub trail-most : d + 1 ≤ r.net.groups + 2
    trail-most = omega (arith, T.few, reached-most (pred_in b label) (r.net.groups + 2))

    module _ (away : u ≢ r.net.groups) where
      pub trail-deep : 0 < d
      trail-deep =
          elim (dec_lt 0 d) [
            | yes l ↦ l
            | no l ↦
                let z : d ≡ 0 = omega arith in
                absurd (away (sym T.last ∙ ap stack z ∙ T.begin))
          ]

      next-is : stack (d - 1 + 1) ≡ u
      next-is = let z : d - 1 + 1 ≡ d = omega (arith, trail-deep) in ap stack z ∙ T.last

      pub trail-via : Via label (stack (d - 1)) u
      trail-via = rw next-is at (T.came (d - 1) (omega (arith, trail-deep)))

      pub tail-is : {x : ℕ} → Tail r S spare b label u x → x ≡ stack (d - 1)
      tail-is t =
          let via = trail-via in
          let z : pred_in b label u - 1 ≡ via.by = omega (arith, via.is) in
          t (stack (d - 1)) (rw z via.arc)

      trail-back : {x : ℕ} → x ≡ stack (d - 1) → Trail label stack (d - 1) x
      trail-back i = record {
        begin = T.begin;
        last = sym i;
        node = λ j l. T.node j (omega arith);
        seen = λ j l. T.seen j (omega arith);
        aside = λ j z l. T.aside j z (omega arith);
        came = λ j l. T.came j (omega arith);
        few = omega (arith, T.few);
        named = T.named;
        from = T.from;
      }

  module _
      (free : r.free ≤ r.net.rows) (f : Formed r.net) {label₀ queue₀ label queue label' queue' : ℕ → ℕ} {u i x : ℕ}
      (W : Walking label₀ queue₀ label queue u i) (X : Stride r S spare b label queue label' queue' u x)
    where
      pub walking-next : x < r.net.groups + 2 → Walking label₀ queue₀ label' queue' x (i + 1)
      walking-next node =
          elim X.step [
            | inl O ↦
                record {
                  stack = push W.stack W.d x;
                  d = W.d + 1;
                  trail = trail-on W.trail O node;
                  steps = omega (arith, W.steps, reached-on W.trail O node);
                  ahead = ahead-next X.advanced W.ahead;
                  sweep = λ H. sweeping-on W.trail O node queue queue' X.advanced (W.sweep H);
                }
            | inr E ↦
                ⊎_elim
                (λ k. absurd (omega (arith, k.1)))
                (λ (k : (u ≢ r.net.groups) × Tail r S spare b label u x).
                rw E.same (record {
                  stack = W.stack;
                  d = W.d - 1;
                  trail = trail-back W.trail k.0 (tail-is W.trail k.0 k.1);
                  steps = omega (arith, W.steps, trail-deep W.trail k.0);
                  ahead = ahead-next X.advanced W.ahead;
                  sweep = λ H.
                      let Y = W.sweep H in
                      record {
                        swept = swept-next X.advanced (trail-node W.trail) Y.swept;
                        done = λ v l p. ⊎_elim
                            (λ (q : (j : ℕ) × ((j ≤ W.d) × (W.stack j ≡ v))).
                            elim (dec_lt q.0 W.d) [
                              | yes h ↦ inl (q.0, (omega arith, q.1.1))
                              | no h ↦
                                  let z : q.0 ≡ W.d = omega (arith, q.1.0) in
                                  let y : u ≡ v = sym W.trail.last ∙ ap W.stack (sym z) ∙ q.1.1 in
                                  inr (rw (sym y) (done-node label queue u free (trail-node W.trail) Y.swept E.none))
                            ])
                            (λ g. inr g)
                            (Y.done v l p);
                      };
                }))
                E.ends
          ]

      pub walking-stuck :
          r.net.groups + 2 ≤ x → Swept r S spare b label₀ queue₀ →
          (label' ≡ label)
          × ((v : ℕ) → v < r.net.groups + 2 → 0 < pred_in b label v → (e : ℕ) → Fresh r S spare b label e v → ⊥)
      walking-stuck out H =
          elim X.step [
            | inl O ↦ absurd (omega (arith, head-node r S spare f O.by u x 0 O.arc))
            | inr E ↦
                ⊎_elim
                (λ k.
                let Y = W.sweep H in (
                  E.same,
                  λ v l p. ⊎_elim
                      (λ q.
                      let z : q.0 ≡ W.d = omega (arith, q.1.0, trail-source W.trail k.0) in
                      let y : u ≡ v = sym W.trail.last ∙ ap W.stack (sym z) ∙ q.1.1 in
                      rw (sym y) (done-node label queue u free (trail-node W.trail) Y.swept E.none))
                      (λ g. g)
                      (Y.done v l p),
                ))
                (λ (k : (u ≢ r.net.groups) × Tail r S spare b label u x).
                absurd (omega (arith, tail-is W.trail k.0 k.1, W.trail.node (W.d - 1) (omega arith))))
                E.ends
          ]

  -- no more steps than twice the nodes
  pub walking-low :
      {label₀ queue₀ label queue : ℕ → ℕ} {u i : ℕ} → Walking label₀ queue₀ label queue u i → i + 2 ≤ 2 * (r.net.groups + 2)
  walking-low {label = label} W = omega (arith, W.steps, reached-most (pred_in b label) (r.net.groups + 2))
