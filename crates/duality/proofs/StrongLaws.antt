-- For every network there are prices that some choice meets, by induction on the number of rows. The last row is left out, or let in with
-- the limits less its places, and each has its prices. Prices for the first that pay for the row are prices for the row left out; prices
-- for the second that do not are prices for the row let in. Until one of these is so, the two are moved towards each other by one
-- (CrossLaws): together they cost no more than before, and neither can cost less than its choice weighs.
--   ext-below ext-at ext-sum ext-small     a selection with one row more
--   row_small              a row counts in a group at most once
--   bill-less              what the places of a row cost
--   leave enter            the row stays out, or goes in
--   raise                  where a group without a place counts the row, prices that pay for it
--   step approach          one step towards each other, and as many as are needed
--   priced                 so there are such prices
use mathlib.Core.Path.{◌≡◌, refl, sym, ap, ap₂, ◌∙◌}
use mathlib.Core.Logic.{inl, inr}
use Prim.Native.Nat.{ℕ, zero, suc, ◌+◌, ◌*◌, ◌-◌, ◌≤◌, ◌<◌, zero-le}
use native.Mathlib.Nat.{mul-le-mul_left}
use native.Mathlib.Decide.{ℕ_discrete, dec_lt, dec_le}
use native.Mathlib.Omega.{arith}
use Rattle.theory.specs.Sum.{sum}
use Rattle.theory.specs.Forest.{chain, Down}
use Rattle.theory.specs.Chain.{path}
use Rattle.theory.specs.Network.{Network, Choice}
use Rattle.theory.specs.Formed.{Formed}
use Rattle.theory.specs.Level.{mark, count, Rising}
use Rattle.theory.proofs.SumLaws.{sum-cong, sum-le, sum-add, sum-zero, same-ne}
use Rattle.theory.proofs.ForestLaws.{chain-in, chain-out, chain-small}
use Rattle.theory.proofs.NetworkLaws.{formed-down, row-only, both-fits}
use Rattle.theory.proofs.LevelLaws.{pays}
use Rattle.theory.proofs.TestLaws.{find}
use Rattle.duality.specs.Prices.{up_to, side_of, bill, left, cost, Priced, ext, without, lo, hi}
use Rattle.duality.proofs.PriceLaws.{card-side, shop-side, count-is, choice-fits, under}
use Rattle.duality.proofs.CrossLaws.{hi-on, hi-off, both-sum, lo-rising, hi-rising, cost-cross}

pub ext-below : (N x : ℕ) (X : ℕ → ℕ) (c : ℕ) → c < N → ext N x X c ≡ X c
unfolding ext
ext-below N x X c h = go (dec_lt c N)
  where
    go : (d : Dec (c < N)) → elim d [ yes l ↦ X c | no l ↦ x ] ≡ X c
    go (yes l) = refl
    go (no n) = absurd (n h)

pub ext-at : (N x : ℕ) (X : ℕ → ℕ) → ext N x X N ≡ x
unfolding ext
ext-at N x X = go (dec_lt N N)
  where
    go : (d : Dec (N < N)) → elim d [ yes l ↦ X N | no l ↦ x ] ≡ x
    go (yes l) = absurd (omega arith)
    go (no n) = refl

pub ext-sum : (N x : ℕ) (X f : ℕ → ℕ) → sum (suc N) (λ c. ext N x X c * f c) ≡ sum N (λ c. X c * f c) + x * f N
unfolding sum
ext-sum N x X f =
    ap₂ ◌+◌ (sum-cong N (λ c l. ap (λ t. t * f c) (ext-below N x X c l))) (ap (λ t. t * f N) (ext-at N x X))

pub ext-small : (N x : ℕ) (X : ℕ → ℕ) → x ≤ 1 → ((c : ℕ) → c < N → X c ≤ 1) → (c : ℕ) → c < suc N → ext N x X c ≤ 1
ext-small N x X h k c l =
    elim (ℕ_discrete c N) [
      | yes e ↦ omega (arith, ap (ext N x X) e, ext-at N x X)
      | no e ↦ omega (arith, ext-below N x X c (omega arith), k c (omega arith))
    ]

module _ (net : Network) (formed : Formed net) where
  open net use {groups as G, parent, rows as n, card as a, shop as b}

  abbrev side : ℕ → ℕ
  side = side_of net

  -- how many places of group v row c takes
  abbrev takes : ℕ → ℕ → ℕ
  takes c v = chain G parent (a c) v + chain G parent (b c) v

  -- no group that row c counts in is without a place
  abbrev Room : (ℕ → ℕ) → ℕ → Type 0
  Room limit c = (v : ℕ) → v < G → takes c v ≤ limit v

  -- what the two nodes of row c cost
  abbrev price : (ℕ → ℕ) → ℕ → ℕ
  price p c = p (a c) + p (b c)

  down : Down G parent
  down = formed-down net formed

  -- its chain on one side meets no group of the other
  row_small : (c : ℕ) → c < n → (v : ℕ) → takes c v ≤ 1
  row_small c l v =
      elim (dec_lt v net.cards) [
        | yes h ↦ omega (arith, chain-small G parent down (a c) v, row-only net formed 1 c l v h)
        | no h ↦ omega (arith, chain-small G parent down (b c) v, row-only net formed 0 c l v (omega arith))
      ]

  bill-less :
      (limit p : ℕ → ℕ) (N : ℕ) → Rising net p → Room limit N →
      bill net limit p ≡ bill net (without net limit N) p + price p N
  unfolding bill without path
  bill-less limit p N r h =
      sum-cong G (λ v l. omega (arith, ap (λ x. x * mark net p v) (part v l)))
      ∙ sum-add G (λ v. without net limit N v * mark net p v)
      (λ v. chain G parent (a N) v * mark net p v + chain G parent (b N) v * mark net p v)
      ∙ ap (λ x. sum G (λ v. without net limit N v * mark net p v) + x)
      (sum-add G (λ v. chain G parent (a N) v * mark net p v) (λ v. chain G parent (b N) v * mark net p v)
      ∙ ap₂ ◌+◌ (pays net formed p r (a N)) (pays net formed p r (b N)))
    where
      part : (v : ℕ) → v < G → limit v ≡ without net limit N v + takes N v
      part v l = omega (arith, h v l)

  count-ext :
      (N x : ℕ) (X : ℕ → ℕ) (v : ℕ) → count (up_to net (suc N)) (ext N x X) v ≡ count (up_to net N) X v + x * takes N v
  count-ext N x X v =
      count-is net (suc N) (ext N x X) v
      ∙ ext-sum N x X (λ c. takes c v)
      ∙ ap (λ s. s + x * takes N v) (sym (count-is net N X v))

  module _ (w : ℕ → ℕ) where
    next-cost :
        (N : ℕ) (limit p : ℕ → ℕ) → cost net (suc N) limit w p ≡ cost net N limit w p + (w N - price p N)
    unfolding left sum
    next-cost N limit p = omega arith

    -- the row stays out
    leave :
        (N : ℕ) → N < n → (limit X p : ℕ → ℕ) → Choice (up_to net N) limit X → Rising net p →
        cost net N limit w p ≡ sum N (λ c. X c * w c) → w N ≤ price p N → Priced net (suc N) limit w
    leave N m limit X p ch r e h =
        record {
          X = ext N 0 X;
          p = p;
          choice = record {
            bits = ext-small N 0 X (omega arith) ch.bits;
            fits =
                both-fits (up_to net (suc N)) limit (ext N 0 X)
                (λ v l. omega (arith, count-ext N 0 X v, choice-fits net formed N (omega arith) limit X ch v l));
          };
          rising = r;
          meet = omega (arith, next-cost N limit p, ext-sum N 0 X w);
        }

    -- the row goes in
    enter :
        (N : ℕ) → N < n → (limit X p : ℕ → ℕ) → Choice (up_to net N) (without net limit N) X → Rising net p → Room limit N →
        cost net N (without net limit N) w p ≡ sum N (λ c. X c * w c) → price p N ≤ w N → Priced net (suc N) limit w
    unfolding without
    enter N m limit X p ch r room e h =
        record {
          X = ext N 1 X;
          p = p;
          choice = record {
            bits = ext-small N 1 X (omega arith) ch.bits;
            fits =
                both-fits (up_to net (suc N)) limit (ext N 1 X)
                (λ v l.
                omega (
                  arith,
                  count-ext N 1 X v,
                  choice-fits net formed N (omega arith) (without net limit N) X ch v l,
                  room v l,
                ));
          };
          rising = r;
          meet = omega (arith, next-cost N limit p, ext-sum N 1 X w, bill-less limit p N r room);
        }

    -- prices that are higher by the weight of row N at node v₀ and below it
    abbrev above : ℕ → ℕ → (ℕ → ℕ) → ℕ → ℕ
    above N v₀ p u = p u + w N * chain G parent u v₀

    -- a group without a place costs nothing
    raise :
        (N v₀ : ℕ) (limit p : ℕ → ℕ) → v₀ < G → limit v₀ ≡ 0 → Rising net p →
        Rising net (above N v₀ p) × (cost net N limit w (above N v₀ p) ≤ cost net N limit w p)
    unfolding bill left mark
    raise N v₀ limit p m z r = (
      record {
        up = λ v l. omega (arith, r.up v l, mul-le-mul_left (w N) (higher v l));
        base = λ u l. omega (arith, r.base u l, ap (λ x. w N * x) (chain-out G parent down u v₀ l));
      },
      omega (
        arith,
        sum-le G node,
        sum-le N {f = λ c. w c - price (above N v₀ p) c} {g = λ c. w c - price p c} (λ c l. omega arith),
      ),
    )
      where
        higher : (v : ℕ) → v < G → chain G parent (parent v) v₀ ≤ chain G parent v v₀
        higher v l = omega (arith, chain-in G parent down v v₀ l)

        node : (v : ℕ) → v < G → limit v * (above N v₀ p v - above N v₀ p (parent v)) ≤ limit v * (p v - p (parent v))
        node v l =
            elim (ℕ_discrete v v₀) [
              | yes e ↦
                  let o : limit v ≡ 0 = ap limit e ∙ z in
                  rw o (omega arith)
              | no e ↦
                  mul-le-mul_left (limit v)
                  (omega (arith, ap (λ x. w N * x) (chain-in G parent down v v₀ l), ap (λ x. w N * x) (same-ne v v₀ e)))
            ]

    -- p moved by one towards q, and q by one towards p
    record Step (N : ℕ) (p q : ℕ → ℕ) : Type 0 where
      more : ℕ → ℕ
      less : ℕ → ℕ
      more_rising : Rising net more
      less_rising : Rising net less
      one_more : price more N ≡ price p N + 1
      one_less : price less N + 1 ≡ price q N
      together : (limit : ℕ → ℕ) → cost net N limit w less + cost net N limit w more ≤ cost net N limit w p + cost net N limit w q

    step : (N : ℕ) → N < n → (p q : ℕ → ℕ) → Rising net p → Rising net q → price p N + 2 ≤ price q N → Step N p q
    step N m p q rp rq h =
        elim (dec_lt (p (a N)) (q (a N))) [
          | yes k ↦
              at 0 (q (a N) - p (a N) - 1) (omega arith)
              (omega (
                arith,
                hi-on side 0 (q (a N) - p (a N) - 1) p q (a N) (card-side net formed N m),
                hi-off side 0 (q (a N) - p (a N) - 1) p q (b N) (λ e. omega (arith, shop-side net formed N m)),
              ))
          | no k ↦
              at 1 (q (b N) - p (b N) - 1) (omega arith)
              (omega (
                arith,
                hi-off side 1 (q (b N) - p (b N) - 1) p q (a N) (λ e. omega (arith, card-side net formed N m)),
                hi-on side 1 (q (b N) - p (b N) - 1) p q (b N) (shop-side net formed N m),
              ))
        ]
      where
        at : (t d : ℕ) → t ≤ 1 → price (hi side t d p q) N ≡ price p N + 1 → Step N p q
        at t d l e = record {
          more = hi side t d p q;
          less = lo side t d p q;
          more_rising = hi-rising net formed t d p q rp rq;
          less_rising = lo-rising net formed t d p q rp rq;
          one_more = e;
          one_less = omega (arith, both-sum side t d p q (a N), both-sum side t d p q (b N));
          together = λ limit. cost-cross net formed t d p q rp rq N (omega arith) limit w l;
        }

    -- k steps bring the prices of the row together
    approach :
        (N : ℕ) → N < n → (limit X₀ X₁ : ℕ → ℕ) → Room limit N →
        Choice (up_to net N) limit X₀ → Choice (up_to net N) (without net limit N) X₁ →
        (k : ℕ) (p q : ℕ → ℕ) → Rising net p → Rising net q →
        cost net N limit w p ≡ sum N (λ c. X₀ c * w c) → cost net N (without net limit N) w q ≡ sum N (λ c. X₁ c * w c) →
        price q N ≤ price p N + k → Priced net (suc N) limit w
    approach N m limit X₀ X₁ room ch₀ ch₁ zero p q rp rq ep eq h =
        elim (dec_le (w N) (price p N)) [
          | yes l ↦ leave N m limit X₀ p ch₀ rp ep l
          | no l ↦ enter N m limit X₁ q ch₁ rq room eq (omega arith)
        ]
    approach N m limit X₀ X₁ room ch₀ ch₁ (suc k) p q rp rq ep eq h =
        elim (dec_le (w N) (price p N)) [
          | yes l ↦ leave N m limit X₀ p ch₀ rp ep l
          | no l ↦
              elim (dec_le (price q N) (w N)) [
                | yes j ↦ enter N m limit X₁ q ch₁ rq room eq j
                | no j ↦
                    let t = step N m p q rp rq (omega arith) in
                    elim (ℕ_discrete (cost net N limit w t.more) (sum N (λ c. X₀ c * w c))) [
                      | yes e ↦
                          approach N m limit X₀ X₁ room ch₀ ch₁ k t.more q t.more_rising rq e eq (omega (arith, t.one_more))
                      | no e ↦
                          approach N m limit X₀ X₁ room ch₀ ch₁ k p t.less rp t.less_rising ep
                          (omega (
                            arith,
                            t.together limit,
                            t.one_less,
                            under net formed N (omega arith) limit w t.more X₀ t.more_rising ch₀,
                            under net formed N (omega arith) (without net limit N) w t.less X₁ t.less_rising ch₁,
                            bill-less limit t.less N t.less_rising room,
                            bill-less limit q N rq room,
                          ))
                          (omega (arith, t.one_less))
                    ]
              ]
        ]

    pub priced : (N : ℕ) → N ≤ n → (limit : ℕ → ℕ) → Priced net N limit w
    unfolding bill left mark sum
    priced zero m limit =
        record {
          X = λ c. 0;
          p = λ u. 0;
          choice = record {
            bits = λ c l. zero-le;
            fits = both-fits (up_to net 0) limit (λ c. 0) (λ v l. omega (arith, count-is net 0 (λ c. 0) v));
          };
          rising = record { up = λ v l. zero-le; base = λ u l. refl };
          meet = omega (arith, sum-cong G {f = λ v. limit v * (0 - 0)} {g = λ v. 0} (λ v l. omega arith), sum-zero G);
        }
    priced (suc N) m limit =
        elim
        (find G (λ v. limit v < takes N v) (λ v. takes N v ≤ limit v)
        (λ v l.
        elim (dec_le (takes N v) (limit v)) [
          | yes h ↦ inr h
          | no h ↦ inl (omega arith)
        ])) [
          | inl f ↦ shut f.0 f.1 f.2 (priced N (omega arith) limit)
          | inr room ↦ wide room (priced N (omega arith) limit) (priced N (omega arith) (without net limit N))
        ]
      where
        -- a group without a place counts the row
        shut : (v : ℕ) → v < G → limit v < takes N v → Priced net N limit w → Priced net (suc N) limit w
        shut v l h s =
            let o = raise N v limit s.p l (omega (arith, row_small N (omega arith) v)) s.rising in
            leave N (omega arith) limit s.X (above N v s.p) s.choice o.0
            (omega (
              arith,
              o.1,
              s.meet,
              under net formed N (omega arith) limit w (above N v s.p) s.X o.0 s.choice,
            ))
            (omega (arith, mul-le-mul_left {m = 1} (w N) (some v h)))
          where
            some : (v : ℕ) → limit v < takes N v → 1 ≤ takes N v
            some v h = omega arith

        -- none does
        wide : Room limit N → Priced net N limit w → Priced net N (without net limit N) w → Priced net (suc N) limit w
        wide room s t =
            approach N (omega arith) limit s.X t.X room s.choice t.choice
            (t.p (a N) + t.p (b N)) s.p t.p s.rising t.rising s.meet t.meet (omega arith)
