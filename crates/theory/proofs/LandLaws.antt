-- Laws of where rows stand while they rise through a forest.
--   rooted-down                the parents make a forest
--   land-out land-low land-high    where a row stands: at the root, at its own node, or where its parent's rows stand
--   land-stays                 at its own node while no node is done
--   land-where                 below g, or at the root
--   land-next                  one node more is done: the rows that stood there stand at its parent, the others where they stood
--   chain-land                 a row counts in a node exactly where it stands there when the nodes after it are done
--   own-start own-next own-le own-small    how many rows hang where
--   stand-start stand-end stand-le stand-small stand-here      how many rows stand where
--   stand-load stand-next stand-other      when the node w is done after those from g on
--   keep-le keep-other keep-marked stand-keep      a selection without the marked rows but for the first m of them
use mathlib.Core.Path.{◌≡◌, refl, sym, ap, ◌∙◌}
use mathlib.Core.Logic.{◌⊎◌, inl, inr, ◌≢◌}
use Prim.Native.Nat.{ℕ, zero, suc, ◌+◌, ◌*◌, ◌-◌, min, ◌≤◌, ◌<◌}
use native.Mathlib.Nat.{mul-le-mul_left, mul-le-mul_right}
use native.Mathlib.Decide.{ℕ_discrete, dec_lt}
use native.Mathlib.Omega.{arith}
use lib.Dec.{ltb}
use borrow.Author.Tests.{lt-ltb, le-ltb, lt-leb, le-leb}
use Rattle.theory.specs.Sum.{pick, sum, same}
use Rattle.theory.specs.Forest.{Down, chain, hung}
use Rattle.theory.specs.Incidence.{Selection, Within, size, load}
use Rattle.theory.specs.Rise.{Rooted, land, own, stand, Waits, keep}
use Rattle.theory.proofs.SumLaws.{sum-cong, sum-add, sum-mul-right, sum-le, sum-zero, sum_bound, sum-next, same_self, same-eq, same-ne, same-small}
use Rattle.theory.proofs.ForestLaws.{forest-ind, walk-out, walk-in, chain-out, chain-in, chain-above}

--------------------------------------------------------------------------------
-- Where a row stands

module _ (G : ℕ) (parent : ℕ → ℕ) (rooted : Rooted G parent) where
  pub rooted-down : Down G parent
  rooted-down v l = elim (rooted v l) [ inl h ↦ inl h | inr h ↦ inr (omega arith) ]

  pub land-out : (g u : ℕ) → G ≤ u → land G parent g u ≡ G
  unfolding land
  land-out g u h = walk-out G parent rooted-down (λ r. G) (λ n x. pick (ltb n g) n x) u h

  land-in : (g u : ℕ) → u < G → land G parent g u ≡ pick (ltb u g) u (land G parent g (parent u))
  unfolding land
  land-in g u h = walk-in G parent rooted-down (λ r. G) (λ n x. pick (ltb n g) n x) u h

  pub land-low : (g u : ℕ) → u < G → u < g → land G parent g u ≡ u
  land-low g u h l = land-in g u h ∙ rw (lt-ltb _ _ l)

  pub land-high : (g u : ℕ) → u < G → g ≤ u → land G parent g u ≡ land G parent g (parent u)
  land-high g u h l = land-in g u h ∙ rw (le-ltb _ _ l)

  -- nothing is done yet
  pub land-stays : (u : ℕ) → u ≤ G → land G parent G u ≡ u
  land-stays u h =
      elim (dec_lt u G) [
        | yes l ↦ land-low G u l l
        | no l ↦ land-out G u (omega arith) ∙ omega arith
      ]

  pub land-where : (g u : ℕ) → Waits G g (land G parent g u)
  land-where g =
      forest-ind G parent rooted-down (λ u. Waits G g (land G parent g u))
      (λ u h. inr (land-out g u h))
      (λ u h i.
      elim (dec_lt u g) [
        | yes l ↦ inl (rw (land-low g u h l) l)
        | no l ↦ rw (land-high g u h (omega arith)) i
      ])

  -- a row that stands at its parent's place or at the root when the nodes from w on are done
  land-parent : (w : ℕ) → w < G → land G parent w (parent w) ≡ parent w
  land-parent w l =
      elim (rooted w l) [
        | inl h ↦ land-low w (parent w) (omega arith) h
        | inr h ↦ land-out w (parent w) (omega arith) ∙ sym h
      ]

  -- the node w is done after those from g on
  module _ (g w : ℕ) (next : g ≡ suc w) (inside : w < G) where
    pub land-next :
        (u : ℕ) →
        ((land G parent g u ≡ w) × (land G parent w u ≡ parent w))
        ⊎ ((land G parent g u ≢ w) × (land G parent w u ≡ land G parent g u))
    land-next =
        forest-ind G parent rooted-down
        (λ u.
        ((land G parent g u ≡ w) × (land G parent w u ≡ parent w))
        ⊎ ((land G parent g u ≢ w) × (land G parent w u ≡ land G parent g u)))
        (λ u h. inr (λ e. omega (arith, land-out g u h), land-out w u h ∙ sym (land-out g u h)))
        (λ u h i.
        elim (dec_lt u w) [
          | yes l ↦ inr (λ e. omega (arith, land-low g u h (omega arith)), land-low w u h l ∙ sym (land-low g u h (omega arith)))
          | no l ↦
              elim (ℕ_discrete u w) [
                | yes e ↦
                    inl (
                      land-low g u h (omega arith) ∙ e,
                      land-high w u h (omega arith) ∙ ap (λ x. land G parent w (parent x)) e ∙ land-parent w inside,
                    )
                | no e ↦ rw (land-high g u h (omega arith), land-high w u h (omega arith)) i
              ]
        ])

    pub chain-land : (u : ℕ) → chain G parent u w ≡ same (land G parent g u) w
    chain-land =
        forest-ind G parent rooted-down (λ u. chain G parent u w ≡ same (land G parent g u) w)
        (λ u h. chain-out G parent rooted-down u w h ∙ sym (same-ne (land G parent g u) w (λ e. omega (arith, land-out g u h))))
        (λ u h i.
        elim (dec_lt u w) [
          | yes l ↦
              chain-above G parent rooted-down u w l
              ∙ sym (same-ne (land G parent g u) w (λ e. omega (arith, land-low g u h (omega arith))))
          | no l ↦
              elim (ℕ_discrete u w) [
                | yes e ↦
                    omega (
                      arith,
                      chain-in G parent rooted-down u w h,
                      same-eq u w e,
                      above u h e,
                      same-eq (land G parent g u) w (land-low g u h (omega arith) ∙ e),
                    )
                | no e ↦
                    omega (
                      arith,
                      chain-in G parent rooted-down u w h,
                      same-ne u w e,
                      i,
                      ap (λ x. same x w) (land-high g u h (omega arith)),
                    )
              ]
        ])
      where
        -- w is not above its own parent
        above : (u : ℕ) → u < G → u ≡ w → chain G parent (parent u) w ≡ 0
        above u h e =
            elim (rooted u h) [
              | inl d ↦ chain-above G parent rooted-down (parent u) w (omega arith)
              | inr d ↦ chain-out G parent rooted-down (parent u) w (omega arith)
            ]

--------------------------------------------------------------------------------
-- How many rows stand where

pub own-start : (a X : ℕ → ℕ) (v : ℕ) → own 0 a X v ≡ 0
unfolding own sum
own-start a X v = refl

-- one row more
pub own-next : (n : ℕ) (a X : ℕ → ℕ) (v : ℕ) → own (n + 1) a X v ≡ own n a X v + X n * same (a n) v
unfolding own
own-next n a X v = sum-next n (λ c. X c * same (a c) v)

pub own-le : (N : ℕ) (a X Y : ℕ → ℕ) → Within N X Y → (v : ℕ) → own N a X v ≤ own N a Y v
unfolding own
own-le N a X Y h v = sum-le N (λ c l. mul-le-mul_right (same (a c) v) (h c l))

pub own-small : (N : ℕ) (a X : ℕ → ℕ) → Selection N X → (v : ℕ) → own N a X v ≤ N
unfolding own
own-small N a X bits v =
    omega (
      arith,
      sum_bound N 1 {f = λ c. X c * same (a c) v}
          (λ c l. omega (arith, mul-le-mul_right (same (a c) v) (bits c l), same-small (a c) v)),
    )

module _ (N G : ℕ) (parent a : ℕ → ℕ) (rooted : Rooted G parent) where
  -- nothing is done yet, and each row stands where it hangs, at a node or at the root
  pub stand-start :
      ((c : ℕ) → c < N → a c ≤ G) → (X : ℕ → ℕ) (v : ℕ) → stand N G parent a G X v ≡ own N a X v
  unfolding stand own
  stand-start nodes X v = sum-cong N (λ c l. ap (λ x. X c * same x v) (land-stays G parent rooted (a c) (nodes c l)))

  -- all nodes are done, and each row stands at the root
  pub stand-end : (X : ℕ → ℕ) → stand N G parent a 0 X G ≡ size N X
  unfolding stand own
  stand-end X = sum-cong N (λ c l. ap (λ x. X c * x) (same-eq (land G parent 0 (a c)) G (top c)) ∙ omega arith)
    where
      top : (c : ℕ) → land G parent 0 (a c) ≡ G
      top c = elim (land-where G parent rooted 0 (a c)) [ inl h ↦ absurd (omega arith) | inr h ↦ h ]

  pub stand-le : (g : ℕ) (X Y : ℕ → ℕ) → Within N X Y → (v : ℕ) → stand N G parent a g X v ≤ stand N G parent a g Y v
  unfolding stand
  stand-le g = own-le N (λ c. land G parent g (a c))

  pub stand-small : (g : ℕ) (X : ℕ → ℕ) → Selection N X → (v : ℕ) → stand N G parent a g X v ≤ N
  unfolding stand
  stand-small g = own-small N (λ c. land G parent g (a c))

  -- when the nodes from w on are done, no row stands at w
  pub stand-here : (w : ℕ) → w < G → (X : ℕ → ℕ) → stand N G parent a w X w ≡ 0
  unfolding stand own
  stand-here w inside X =
      sum-cong N {g = λ c. 0} (λ c l. ap (λ x. X c * x) (same-ne (land G parent w (a c)) w (away c)) ∙ omega arith)
      ∙ sum-zero N
    where
      away : (c : ℕ) → land G parent w (a c) ≢ w
      away c e = elim (land-where G parent rooted w (a c)) [ inl h ↦ omega arith | inr h ↦ omega arith ]

  module _ (g w : ℕ) (next : g ≡ suc w) (inside : w < G) where
    pub stand-load : (X : ℕ → ℕ) → load N (hung G parent a) X w ≡ stand N G parent a g X w
    unfolding stand own load
    stand-load X = sum-cong N (λ c l. ap (λ x. X c * x) (chain-land G parent rooted g w next inside (a c)))

    -- the rows that stood at w stand at its parent
    pub stand-next :
        (X : ℕ → ℕ) (v : ℕ) → v ≢ w →
        stand N G parent a w X v ≡ stand N G parent a g X v + stand N G parent a g X w * same (parent w) v
    unfolding stand own
    stand-next X v n =
        sum-cong N (λ c l. term c)
        ∙ sum-add N (λ c. X c * same (land G parent g (a c)) v) (λ c. X c * same (land G parent g (a c)) w * same (parent w) v)
        ∙ ap (λ x. sum N (λ c. X c * same (land G parent g (a c)) v) + x)
        (sum-mul-right N (same (parent w) v) (λ c. X c * same (land G parent g (a c)) w))
      where
        term :
            (c : ℕ) →
            X c * same (land G parent w (a c)) v
            ≡ X c * same (land G parent g (a c)) v + X c * same (land G parent g (a c)) w * same (parent w) v
        term c =
            elim (land-next G parent rooted g w next inside (a c)) [
              | inl h ↦ rw (h.0, h.1, same-ne w v (λ e. n (sym e)), same_self w) (omega arith)
              | inr h ↦ rw (h.1, same-ne (land G parent g (a c)) w h.0) (omega arith)
            ]

    -- selections that differ in rows that stand at w only
    pub stand-other :
        (X Y : ℕ → ℕ) → ((c : ℕ) → c < N → same (land G parent g (a c)) w ≡ 0 → X c ≡ Y c) → (v : ℕ) → v ≢ w →
        stand N G parent a g X v ≡ stand N G parent a g Y v
    unfolding stand own
    stand-other X Y h v n = sum-cong N term
      where
        term : (c : ℕ) → c < N → X c * same (land G parent g (a c)) v ≡ Y c * same (land G parent g (a c)) v
        term c l =
            elim (ℕ_discrete (land G parent g (a c)) w) [
              | yes e ↦ rw (e, same-ne w v (λ i. n (sym i))) (omega arith)
              | no e ↦ ap (λ x. x * same (land G parent g (a c)) v) (h c l (same-ne (land G parent g (a c)) w e))
            ]

--------------------------------------------------------------------------------
-- The first of the marked rows

module _ (X s : ℕ → ℕ) (m : ℕ) where
  keep_low : (c : ℕ) → sum c (λ i. X i * s i) < m → keep X s m c ≡ X c
  unfolding keep
  keep_low c h = rw (lt-leb _ _ h)

  keep_high : (c : ℕ) → m ≤ sum c (λ i. X i * s i) → keep X s m c ≡ X c * (1 - s c)
  unfolding keep
  keep_high c h = rw (le-leb _ _ h)

  pub keep-other : (c : ℕ) → s c ≡ 0 → keep X s m c ≡ X c
  keep-other c o =
      elim (dec_lt (sum c (λ i. X i * s i)) m) [
        | yes h ↦ keep_low c h
        | no h ↦ keep_high c (omega arith) ∙ ap (λ x. X c * (1 - x)) o ∙ omega arith
      ]

  pub keep-le : (c : ℕ) → keep X s m c ≤ X c
  keep-le c =
      elim (dec_lt (sum c (λ i. X i * s i)) m) [
        | yes h ↦ omega (arith, keep_low c h)
        | no h ↦
            let less : 1 - s c ≤ 1 = omega arith in
            omega (arith, keep_high c (omega arith), mul-le-mul_left (X c) less)
      ]

  -- of the marked rows as many are left as there are, but no more than m
  pub keep-marked :
      (n : ℕ) → Selection n X → Selection n s → sum n (λ c. keep X s m c * s c) ≡ min (sum n (λ c. X c * s c)) m
  unfolding sum
  keep-marked zero bits marks = omega arith
  keep-marked (suc n) bits marks =
      let i = keep-marked n (λ c l. bits c (omega arith)) (λ c l. marks c (omega arith)) in
      elim (dec_lt (sum n (λ c. X c * s c)) m) [
        | yes h ↦
            omega (
              arith,
              i,
              ap (λ x. x * s n) (keep_low n h),
              mul-le-mul_right (s n) (bits n (omega arith)),
              marks n (omega arith),
            )
        | no h ↦ omega (arith, i, ap (λ x. x * s n) (keep_high n (omega arith)), none n (marks n (omega arith)))
      ]
    where
      none : (c : ℕ) → s c ≤ 1 → X c * (1 - s c) * s c ≡ 0
      none c l =
          elim (ℕ_discrete (s c) 0) [
            | yes e ↦ rw e (omega arith)
            | no e ↦ let one : s c ≡ 1 = omega arith in rw one (omega arith)
          ]

-- of the rows that stand at w
pub stand-keep :
    (N G : ℕ) (parent a : ℕ → ℕ) (g : ℕ) (X : ℕ → ℕ) → Selection N X → (w m : ℕ) →
    stand N G parent a g (keep X (λ c. same (land G parent g (a c)) w) m) w ≡ min (stand N G parent a g X w) m
unfolding stand own
stand-keep N G parent a g X bits w m =
    keep-marked X (λ c. same (land G parent g (a c)) w) m N bits (λ c l. same-small (land G parent g (a c)) w)
