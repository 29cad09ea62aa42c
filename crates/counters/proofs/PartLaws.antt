-- Laws of parts that stand one behind the other, and of the best choice of one of them. A choice of the whole with the rows of one part
-- exchanged for another choice of that part keeps more by as many as the part does; so where either may be exchanged for the other, the best
-- choice of the whole has the part's best choice in it.
--   sum-none sum-suc sum-rise sum-split sum-part   sums over parts: part k ends where part k + 1 begins
--   part_end               part k ends within the whole
--   which-is of_part-is     a thing of a part, by the part
--   located each_part      every thing lies in a part, so that a fact of the things of each part is one of all
--   apart                  in one part only
--   splice                 B at the m places from o on, X elsewhere
--   part-best              where a part's rows may be chosen apart from the others', the best choice has the part's best choice in it
use mathlib.Core.Path.{◌≡◌, refl, sym, ap, ◌∙◌}
use mathlib.Core.Logic.{◌⊎◌, inl, inr}
use Prim.Native.Nat.{ℕ, zero, suc, ◌+◌, ◌*◌, ◌-◌, ◌≤◌, ◌<◌}
use native.Mathlib.Nat.{add-zero, add-suc, add-sub_of_le}
use native.Mathlib.Decide.{ℕ_discrete, dec_lt}
use native.Mathlib.Omega.{arith}
use lib.Dec.{ltb}
use borrow.Author.Tests.{lt-ltb, le-ltb}
use Rattle.theory.specs.Sum.{pick, sum, same}
use Rattle.theory.specs.Incidence.{Selection}
use Rattle.theory.specs.Priority.{kept, Lex}
use Rattle.theory.specs.Best.{Best}
use Rattle.theory.proofs.SumLaws.{sum-cong, sum-zero}
use Rattle.theory.proofs.FirstLaws.{Ahead}
use Rattle.counters.specs.Joined.{which, of_part}

--------------------------------------------------------------------------------
-- Sums over parts

pub sum-none : (f : ℕ → ℕ) → 0 ≡ sum 0 f
unfolding sum
sum-none f = refl

pub sum-suc : (f : ℕ → ℕ) (k : ℕ) → sum (suc k) f ≡ sum k f + f k
unfolding sum
sum-suc f k = refl

pub sum-rise : (f : ℕ → ℕ) (j k : ℕ) → j ≤ k → sum j f ≤ sum k f
sum-rise f j zero h = let e : j ≡ 0 = omega arith in rw e (omega arith)
sum-rise f j (suc k) h =
    elim (ℕ_discrete j (suc k)) [
      | yes e ↦ rw e (omega arith)
      | no e ↦ omega (arith, sum-suc f k, sum-rise f j k (omega arith))
    ]

pub sum-split : (o k : ℕ) (f : ℕ → ℕ) → sum (o + k) f ≡ sum o f + sum k (λ i. f (o + i))
unfolding sum
sum-split o zero f = rw (add-zero o) (omega arith)
sum-split o (suc k) f = rw (add-suc o k) (omega (arith, sum-split o k f))

-- a sum whose terms are 0 outside a part
pub sum-part :
    (N o m : ℕ) (f : ℕ → ℕ) → o + m ≤ N → ((c : ℕ) → c < N → (c < o) ⊎ (o + m ≤ c) → f c ≡ 0) → sum N f ≡ sum m (λ i. f (o + i))
sum-part N o m f l h =
    ap (λ x. sum x f) (sym (add-sub_of_le l))
    ∙ omega (
      arith,
      sum-split (o + m) (N - (o + m)) f,
      sum-split o m f,
      sum-cong o {f = f} {g = λ c. 0} (λ c k. h c (omega arith) (inl k)),
      sum-zero o,
      sum-cong (N - (o + m)) {f = λ i. f (o + m + i)} {g = λ i. 0} (λ i k. h (o + m + i) (omega arith) (inr (omega arith))),
      sum-zero (N - (o + m)),
    )

pub part_end : (f : ℕ → ℕ) (n k : ℕ) → k < n → sum k f + f k ≤ sum n f
part_end f n k h = omega (arith, sum-suc f k, sum-rise f (suc k) n h)

--------------------------------------------------------------------------------
-- In which part a thing lies

which-suc : (f : ℕ → ℕ) (n v : ℕ) → which f (suc n) v ≡ pick (ltb v (sum n f)) (which f n v) n
unfolding which
which-suc f n v = refl

pub which-is : (f : ℕ → ℕ) (n k i : ℕ) → k < n → i < f k → which f n (sum k f + i) ≡ k
which-is f zero k i h l = absurd (omega arith)
which-is f (suc n) k i h l =
    elim (ℕ_discrete k n) [
      | yes e ↦
          let past : sum n f ≤ sum k f + i = omega (arith, ap (λ j. sum j f) e) in
          which-suc f n (sum k f + i) ∙ rw (le-ltb _ _ past) (sym e)
      | no e ↦
          let before : sum k f + i < sum n f = omega (arith, part_end f n k (omega arith)) in
          which-suc f n (sum k f + i) ∙ rw (lt-ltb _ _ before) (which-is f n k i (omega arith) l)
    ]

pub of_part-is :
    {A : Type 0} (f : ℕ → ℕ) (n : ℕ) (g : ℕ → ℕ → A) (k i : ℕ) → k < n → i < f k → of_part f n g (sum k f + i) ≡ g k i
of_part-is f n g k i h l =
    let back : sum k f + i - sum k f ≡ i = omega arith in
    ap (λ j. g j (sum k f + i - sum j f)) (which-is f n k i h l) ∙ ap (g k) back

pub record Located (f : ℕ → ℕ) (n v : ℕ) : Type 0 where
  pub part : ℕ
  pub inside : part < n
  pub place : ℕ
  pub small : place < f part
  pub is : sum part f + place ≡ v

pub located : (f : ℕ → ℕ) (n v : ℕ) → v < sum n f → Located f n v
unfolding sum
located f zero v h = absurd (omega arith)
located f (suc n) v h =
    elim (dec_lt v (sum n f)) [
      | yes l ↦
          let r = located f n v l in
          record { part = r.part; inside = omega (arith, r.inside); place = r.place; small = r.small; is = r.is }
      | no l ↦ record { part = n; inside = omega arith; place = v - sum n f; small = omega arith; is = omega arith }
    ]

pub each_part :
    (f : ℕ → ℕ) (n : ℕ) (P : ℕ → Type 0) → ((k : ℕ) → k < n → (i : ℕ) → i < f k → P (sum k f + i)) →
    (v : ℕ) → v < sum n f → P v
each_part f n P each v h =
    let r = located f n v h in
    rw r.is at (each r.part r.inside r.place r.small)

pub apart : (f : ℕ → ℕ) (j k a b : ℕ) → a < f j → b < f k → sum j f + a ≡ sum k f + b → j ≡ k
apart f j k a b h l e =
    elim (dec_lt j k) [
      | yes s ↦ absurd (omega (arith, part_end f k j s))
      | no s ↦
          elim (dec_lt k j) [
            | yes t ↦ absurd (omega (arith, part_end f j k t))
            | no t ↦ omega arith
          ]
    ]

--------------------------------------------------------------------------------
-- Another choice of one part

unfoldable pub splice : ℕ → ℕ → (ℕ → ℕ) → (ℕ → ℕ) → ℕ → ℕ
splice o m B X c = pick (ltb c o) (X c) (pick (ltb c (o + m)) (B (c - o)) (X c))

module _ (o m : ℕ) (B X : ℕ → ℕ) where
  pub splice-before : (c : ℕ) → c < o → splice o m B X c ≡ X c
  unfolding splice
  splice-before c h = rw (lt-ltb _ _ h)

  pub splice-after : (c : ℕ) → o + m ≤ c → splice o m B X c ≡ X c
  unfolding splice
  splice-after c h =
      let past : o ≤ c = omega arith in
      rw (le-ltb _ _ past, le-ltb _ _ h)

  pub splice_at : (i : ℕ) → i < m → splice o m B X (o + i) ≡ B i
  unfolding splice
  splice_at i h =
      let past : o ≤ o + i = omega arith in
      let before : o + i < o + m = omega arith in
      let back : o + i - o ≡ i = omega arith in
      rw (le-ltb _ _ past, lt-ltb _ _ before, back)

  -- a row is in the part, or it is left as it was
  splice-cases : (c : ℕ) → ((i : ℕ) × (i < m) × (o + i ≡ c)) ⊎ (splice o m B X c ≡ X c)
  splice-cases c =
      elim (dec_lt c o) [
        | yes h ↦ inr (splice-before c h)
        | no h ↦
            elim (dec_lt c (o + m)) [
              | yes k ↦ inl (c - o, omega arith, omega arith)
              | no k ↦ inr (splice-after c (omega arith))
            ]
      ]

  pub splice-bit : (N : ℕ) → Selection m B → Selection N X → Selection N (splice o m B X)
  splice-bit N hb hx c l =
      elim (splice-cases c) [
        | inl r ↦ rw (← r.2) (omega (arith, splice_at r.0 r.1, hb r.0 r.1))
        | inr e ↦ omega (arith, e, hx c l)
      ]

  -- sums change by the part alone
  pub splice-sum :
      (N : ℕ) → o + m ≤ N → (f : ℕ → ℕ) →
      sum N (λ c. splice o m B X c * f c) + sum m (λ i. X (o + i) * f (o + i))
      ≡ sum N (λ c. X c * f c) + sum m (λ i. B i * f (o + i))
  splice-sum N l f =
      rw (← add-sub_of_le l)
      (omega (
        arith,
        sum-split (o + m) (N - (o + m)) (λ c. splice o m B X c * f c),
        sum-split (o + m) (N - (o + m)) (λ c. X c * f c),
        sum-split o m (λ c. splice o m B X c * f c),
        sum-split o m (λ c. X c * f c),
        sum-cong o {f = λ c. splice o m B X c * f c} {g = λ c. X c * f c} (λ c k. ap (λ t. t * f c) (splice-before c k)),
        sum-cong m {f = λ i. splice o m B X (o + i) * f (o + i)} {g = λ i. B i * f (o + i)}
            (λ i k. ap (λ t. t * f (o + i)) (splice_at i k)),
        sum-cong (N - (o + m)) {f = λ i. splice o m B X (o + m + i) * f (o + m + i)} {g = λ i. X (o + m + i) * f (o + m + i)}
            (λ i k. ap (λ t. t * f (o + m + i)) (splice-after (o + m + i) (omega arith))),
      ))

--------------------------------------------------------------------------------
-- The best choice of one part

-- numbers of each kind, where two differ by as much as two others
lex-shift : (K : ℕ) (d e a b : ℕ → ℕ) → ((k : ℕ) → d k + a k ≡ e k + b k) → Lex K d e → Lex K b a
lex-shift zero d e a b h l = tt
lex-shift (suc K) d e a b h (inl l) = inl (omega (arith, h K))
lex-shift (suc K) d e a b h (inr l) = inr (omega (arith, h K, l.0), lex-shift K d e a b h l.1)

-- N rows, of which n from row r on are the part's. `Fit` says which choices of all rows fit, `Own` which of the part's
module _
    (N K : ℕ) (kind : ℕ → ℕ) (Fit : (ℕ → ℕ) → Type 0) (r n : ℕ) (room : r + n ≤ N) (own : ℕ → ℕ) (Own : (ℕ → ℕ) → Type 0)
    (kinds : (i : ℕ) → i < n → kind (r + i) ≡ own i)
    (into : (X : ℕ → ℕ) → Selection N X → Fit X → Own (λ i. X (r + i)))
    (swap : (X B : ℕ → ℕ) → Selection N X → Selection n B → Fit X → Own B → Fit (splice r n B X))
  where
    kept-splice :
        (X B : ℕ → ℕ) (k : ℕ) →
        kept N kind (splice r n B X) k + kept n own (λ i. X (r + i)) k ≡ kept N kind X k + kept n own B k
    unfolding kept
    kept-splice X B k =
        omega (
          arith,
          splice-sum r n B X N room (λ c. same (kind c) k),
          sum-cong n {f = λ i. X (r + i) * same (kind (r + i)) k} {g = λ i. X (r + i) * same (own i) k}
              (λ i l. ap (λ t. X (r + i) * same t k) (kinds i l)),
          sum-cong n {f = λ i. B i * same (kind (r + i)) k} {g = λ i. B i * same (own i) k}
              (λ i l. ap (λ t. B i * same t k) (kinds i l)),
        )

    module _ (X : ℕ → ℕ) (best : Best N K kind Fit X) where
      ahead-part : (B : ℕ → ℕ) → Ahead N X (splice r n B X) → Ahead n (λ i. X (r + i)) B
      ahead-part B (inl h) = inl (λ i l. h (r + i) (omega (arith, room)) ∙ splice_at r n B X i l)
      ahead-part B (inr h) =
          elim (splice-cases r n B X h.0) [
            | inl q ↦
                inr (
                  q.0,
                  q.1,
                  ap X q.2 ∙ h.2,
                  sym (splice_at r n B X q.0 q.1) ∙ ap (splice r n B X) q.2 ∙ h.3,
                  λ j l. h.4 (r + j) (omega (arith, q.2)) ∙ splice_at r n B X j (omega (arith, q.1)),
                )
            | inr e ↦ absurd (omega (arith, h.2, h.3, e))
          ]

      pub part-best : Best n K own Own (λ i. X (r + i))
      part-best = record {
        bits = λ i l. best.bits (r + i) (omega (arith, room));
        fits = into X best.bits best.fits;
        most = λ B s f.
            lex-shift K (kept N kind (splice r n B X)) (kept N kind X) (kept n own (λ i. X (r + i))) (kept n own B) (kept-splice X B)
            (best.most (splice r n B X) (splice-bit r n B X N s best.bits) (swap X B best.bits s best.fits f));
        first = λ B s f l.
            ahead-part B
            (best.first (splice r n B X) (splice-bit r n B X N s best.bits) (swap X B best.bits s best.fits f)
            (lex-shift K (kept n own (λ i. X (r + i))) (kept n own B) (kept N kind (splice r n B X)) (kept N kind X)
            (λ k. omega (arith, kept-splice X B k)) l));
      }
