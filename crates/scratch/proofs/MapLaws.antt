-- Laws of the map of the lent buffers.
--   each                     what holds of 0, 1, 2 and so on below n holds of every number below n
--   start-apart start-total  sections side by side: cells of different sections lie apart, and below the end of the last
--   record_le                fields that lie in one cell are fields of one record
--   home                     the section of the map in which a cell of a table lies, its record there, and its field in the record
--   place-apart place-low    what lies at one place is one cell of one table, or the two halves of a cell; every cell lies below the end of
--                            the map
--   table_at table-out       a table inside its width and outside
--   half-small               a table of halves holds numbers below 2 ^ 16, whatever the slice holds
--   put-set put-at           a store into a cell of the map changes that cell alone
--   price-at price-out put-price    the same for prices
--   keeps-none keeps_then keeps-more put_keeps room-keeps    what stays as it was
--   network-same residual-same    buffers that agree in the given tables hold the same network
use mathlib.Core.Path.{◌≡◌, refl, sym, ap, subst, fun_ext, ◌∙◌}
use mathlib.Core.Logic.{◌⊎◌, inl, inr}
use mathlib.Core.List.{List, [], ◌∷◌}
use Prim.Native.Nat.{ℕ, zero, suc, ◌+◌, ◌*◌, ◌-◌, ◌≤◌, ◌<◌}
use native.Mathlib.Decide.{ℕ_discrete, dec_lt, dec_le}
use native.Mathlib.Nat.{mul-le-mul_left}
use native.Mathlib.Omega.{arith}
use lib.ListN.{length, get_or, set, length-set}
use lib.Seq.{get_or-set_same, get_or-set_other}
use borrow.Author.Tests.{lt-ltb, le-ltb}
use Rattle.scratch.specs.declared.Shape.{Shape}
use Rattle.scratch.specs.Map.{span, arc_in, widths, width, part, place, half, part_of, with_part, bound, cells, cell_at, table, price_at, price_of}
use Rattle.scratch.specs.Map.{parents, card_nodes, shop_nodes, weights, Room, Put, Keeps, PutPrice}
use Rattle.scratch.specs.View.{net_of, residual_of}
use Rattle.scratch.proofs.PartLaws.{Beside, part-here, part-beside, half-part}

--------------------------------------------------------------------------------
-- Where the cells lie

-- P holds of 0, of 1, and so on below n
abbrev pub Each : ℕ → (ℕ → Type 0) → Type 0
Each zero P = Unit
Each (suc n) P = P 0 × Each n (λ k. P (suc k))

infixr 20 ◌and◌
pub ◌and◌ : {A B : Type 0} → A → B → A × B
◌and◌ a b = (a, b)

pub each : (n : ℕ) (P : ℕ → Type 0) → Each n P → (k : ℕ) → k < n → P k
each zero P a k l = absurd (omega arith)
each (suc n) P a zero l = a.0
each (suc n) P a (suc k) l = each n (λ m. P (suc m)) a.1 k (omega arith)

-- the cell where section k begins, of sections of these sizes side by side
abbrev start : List ℕ → ℕ → ℕ
start [] k = 0
start (w ∷ ws) zero = 0
start (w ∷ ws) (suc k) = w + start ws k

-- what all sizes add up to
abbrev total : List ℕ → ℕ
total [] = 0
total (w ∷ ws) = w + total ws

start-apart :
    (ws : List ℕ) (k l i j : ℕ) → i < get_or ws k 0 → j < get_or ws l 0 → (k ≡ l → ⊥) → start ws k + i ≡ start ws l + j → ⊥
start-apart [] k l i j a b n e = omega arith
start-apart (w ∷ ws) zero zero i j a b n e = n refl
start-apart (w ∷ ws) zero (suc l) i j a b n e = omega arith
start-apart (w ∷ ws) (suc k) zero i j a b n e = omega arith
start-apart (w ∷ ws) (suc k) (suc l) i j a b n e = start-apart ws k l i j a b (λ m. n (ap suc m)) (omega arith)

start-total : (ws : List ℕ) (k i : ℕ) → i < get_or ws k 0 → start ws k + i < total ws
start-total [] k i a = absurd (omega arith)
start-total (w ∷ ws) zero i a = omega arith
start-total (w ∷ ws) (suc k) i a = omega (arith, start-total ws k i a)

-- field e of record i and field f of record j, where a record has d fields
record_le : (d i j e f : ℕ) → f < d → d * i + e ≡ d * j + f → i ≤ j
record_le d i j e f l h =
    elim (dec_le i j) [
      | yes m ↦ m
      | no n ↦ let m : j + 1 ≤ i = omega arith in absurd (omega (arith, mul-le-mul_left d m))
    ]

-- a table that has a cell is one of those that are listed
table-number : (ws : List ℕ) (k i : ℕ) → i < get_or ws k 0 → k < length ws
table-number [] k i l = absurd (omega arith)
table-number (w ∷ ws) zero i l = omega arith
table-number (w ∷ ws) (suc k) i l = omega (arith, table-number ws k i l)

-- the sizes of the sections, and how many cells their records have
abbrev sizes : ℕ → ℕ → List ℕ
sizes g n = (2 * (g + 2)) ∷ (2 * g) ∷ (2 * n) ∷ n ∷ []

abbrev many : ℕ → ℕ
many p = get_or (2 ∷ 2 ∷ 2 ∷ 1 ∷ []) p 0

-- the tables that take part q of the cells of each section, in the order of the fields; 11 where there is none
abbrev owners : ℕ → List (List ℕ)
owners zero = (0 ∷ 11 ∷ []) ∷ (11 ∷ 11 ∷ []) ∷ (11 ∷ 11 ∷ []) ∷ (10 ∷ []) ∷ []
owners (suc zero) = (11 ∷ 3 ∷ []) ∷ (4 ∷ 7 ∷ []) ∷ (8 ∷ 9 ∷ []) ∷ (11 ∷ []) ∷ []
owners (suc (suc q)) = (11 ∷ 1 ∷ []) ∷ (2 ∷ 1 ∷ []) ∷ (5 ∷ 6 ∷ []) ∷ (11 ∷ []) ∷ []

abbrev owner : ℕ → ℕ → ℕ → ℕ
owner q p f = get_or (get_or (owners q) p []) f 0

-- 1 where a cell is not divided
abbrev undivided : ℕ → ℕ → ℕ
undivided p f = get_or (get_or ((1 ∷ 0 ∷ []) ∷ (0 ∷ 0 ∷ []) ∷ (0 ∷ 0 ∷ []) ∷ (1 ∷ []) ∷ []) p []) f 0

-- which cell of its table record 0 holds there: the queue goes on in the groups' records
abbrev begins : ℕ → ℕ → ℕ → ℕ → ℕ
begins g q p f = get_or (get_or ((0 ∷ 0 ∷ []) ∷ (0 ∷ (q - 1) * (g + 2) ∷ []) ∷ (0 ∷ 0 ∷ []) ∷ (0 ∷ []) ∷ []) p []) f 0

-- cell i of table k is part of field f of record r of section p
record Lies (sh : Shape) (k i p f r : ℕ) : Type 0 where
  is : k ≡ owner (part k) p f
  index : i ≡ begins sh.groups (part k) p f + r
  whole : undivided p f ≡ 1 - part k
  few : part k ≤ 2
  low : f < many p
  within : many p * r + f < get_or (sizes sh.groups sh.rows) p 0
  at : place sh k i ≡ start (sizes sh.groups sh.rows) p + (many p * r + f)

abbrev Home : Shape → ℕ → Type 0
Home sh k = (i : ℕ) → i < width sh k → (p : ℕ) × (f : ℕ) × (r : ℕ) × Lies sh k i p f r

-- the queue's places: one for each node, and one more
queue-home : (sh : Shape) → 0 < sh.groups → Home sh 1
queue-home sh some i l =
    elim (dec_lt i (sh.groups + 2)) [
      | yes h ↦ (0, 1, i, omega arith)
      | no h ↦ (1, 1, 0, omega arith)
    ]

-- the section, the field and the record of each cell of each table
homes : (sh : Shape) → 0 < sh.groups → Each 11 (Home sh)
homes sh some =
    (λ i l. (0, 0, i, omega arith))
    and queue-home sh some
    and (λ i l. (1, 0, i, omega arith))
    and (λ i l. (0, 1, i, omega arith))
    and (λ i l. (1, 0, i, omega arith))
    and (λ i l. (2, 0, i, omega arith))
    and (λ i l. (2, 1, i, omega arith))
    and (λ i l. (1, 1, i, omega arith))
    and (λ i l. (2, 0, i, omega arith))
    and (λ i l. (2, 1, i, omega arith))
    and (λ i l. (3, 0, i, omega arith))
    and tt

home : (sh : Shape) → 0 < sh.groups → (k : ℕ) → Home sh k
home sh some k i l = each 11 (Home sh) (homes sh some) k (table-number (widths sh.groups sh.rows) k i l) i l

module _ (sh : Shape) (k l i j : ℕ) (same : place sh k i ≡ place sh l j) where
  -- two cells of one section
  one-section : {p e f r s : ℕ} → Lies sh k i p e r → Lies sh l j p f s → ((k ≡ l) × (i ≡ j)) ⊎ Beside (part k) (part l)
  one-section {p} {e} {f} {r} {s} A B =
      let h : many p * r + e ≡ many p * s + f = omega (arith, same, A.at, B.at) in
      let m : r ≡ s = omega (arith, record_le (many p) r s e f B.low h, record_le (many p) s r f e A.low (sym h)) in
      let n : e ≡ f = omega (arith, h, ap (λ x. many p * x) m) in
      elim (ℕ_discrete (part k) (part l)) [
        | yes z ↦
            inl (
              A.is ∙ ap (λ x. owner x p e) z ∙ ap (λ x. owner (part l) p x) n ∙ sym B.is,
              A.index
                  ∙ ap (λ x. begins sh.groups x p e + r) z
                  ∙ ap (λ x. begins sh.groups (part l) p x + r) n
                  ∙ ap (λ x. begins sh.groups (part l) p f + x) m
                  ∙ sym B.index,
            )
        | no z ↦
            let w : 1 - part k ≡ 1 - part l = sym A.whole ∙ ap (λ x. undivided p x) n ∙ B.whole in
            inr (record {
              half = omega (arith, w, z, A.few, B.few);
              other = omega (arith, w, z, A.few, B.few);
              differ = z;
            })
      ]

  -- two cells of any sections
  any-section : {p q e f r s : ℕ} → Lies sh k i p e r → Lies sh l j q f s → ((k ≡ l) × (i ≡ j)) ⊎ Beside (part k) (part l)
  any-section {p} {q} {e} {f} {r} {s} A B =
      elim (ℕ_discrete p q) [
        | yes m ↦ one-section A (rw (← m) at B)
        | no n ↦
            absurd
            (start-apart
            (sizes sh.groups sh.rows)
            p
            q
            (many p * r + e)
            (many q * s + f)
            A.within
            B.within
            n
            (omega (arith, same, A.at, B.at)))
      ]

  pub place-apart : 0 < sh.groups → i < width sh k → j < width sh l → ((k ≡ l) × (i ≡ j)) ⊎ Beside (part k) (part l)
  place-apart some a b = any-section (home sh some k i a).3 (home sh some l j b).3

pub place-low : (sh : Shape) (k i : ℕ) → 0 < sh.groups → i < width sh k → place sh k i < cells sh
place-low sh k i some a =
    let (p, f, r, A) = home sh some k i a in
    omega (arith, A.at, start-total (sizes sh.groups sh.rows) p (many p * r + f) A.within)

--------------------------------------------------------------------------------
-- Reading and storing a cell

pub table_at :
    (sh : Shape) (t : List ℕ) (k i : ℕ) → i < width sh k → table sh t k i ≡ part_of (part k) (get_or t (place sh k i) 0)
unfolding cell_at
table_at sh t k i a = simp (lt-ltb i (width sh k) a)

pub table-out : (sh : Shape) (t : List ℕ) (k i : ℕ) → width sh k ≤ i → table sh t k i ≡ 0
unfolding cell_at
table-out sh t k i a = simp (le-ltb i (width sh k) a)

pub half-small : (sh : Shape) (t : List ℕ) (k i : ℕ) → 0 < part k → table sh t k i < half
half-small sh t k i l =
    elim (dec_lt i (width sh k)) [
      | yes h ↦ omega (arith, table_at sh t k i h, half-part (part k) (get_or t (place sh k i) 0) l)
      | no h ↦ omega (arith, table-out sh t k i (omega arith))
    ]

module _
    (sh : Shape) (t : List ℕ) (k i x : ℕ) (l : i < width sh k) (room : Room sh t) (fits : x < bound (part k))
  where
    -- the list after the store
    abbrev stored : List ℕ
    stored = set t (place sh k i) (with_part (part k) (get_or t (place sh k i) 0) x)

    at_stored : (m j : ℕ) → place sh m j ≡ place sh k i → get_or stored (place sh m j) 0 ≡ with_part (part k) (get_or t (place sh k i) 0) x
    at_stored m j e =
        ap (λ a. get_or stored a 0) e
        ∙ get_or-set_same t (place sh k i) (with_part (part k) (get_or t (place sh k i) 0) x) 0
        (omega (arith, place-low sh k i room.few.some l, room.size))

    -- another cell: it lies at another place, or it is the other half
    other : (m j : ℕ) → ((m ≡ k) × (j ≡ i) → ⊥) → table sh stored m j ≡ table sh t m j
    other m j n =
        elim (dec_lt j (width sh m)) [
          | yes h ↦
              table_at sh stored m j h
              ∙ elim (ℕ_discrete (place sh m j) (place sh k i)) [
                | yes e ↦
                    elim (place-apart sh m k j i e room.few.some h l) [
                      | inl w ↦ absurd (n w)
                      | inr w ↦
                          ap (part_of (part m)) (at_stored m j e)
                          ∙ part-beside (part m) (part k) (get_or t (place sh k i) 0) x w fits
                          ∙ ap (λ a. part_of (part m) (get_or t a 0)) (sym e)
                    ]
                | no e ↦
                    ap (part_of (part m))
                    (get_or-set_other t (place sh k i) (place sh m j) (with_part (part k) (get_or t (place sh k i) 0) x) 0 e)
              ]
              ∙ sym (table_at sh t m j h)
          | no h ↦ table-out sh stored m j (omega arith) ∙ sym (table-out sh t m j (omega arith))
        ]

    pub put-set : Put sh t stored k i x
    put-set = record {
      long = length-set t (place sh k i) (with_part (part k) (get_or t (place sh k i) 0) x);
      puts = record {
        here =
            table_at sh stored k i l
            ∙ ap (part_of (part k)) (at_stored k i refl)
            ∙ part-here (part k) (get_or t (place sh k i) 0) x fits;
        else = λ j n. other k j (λ w. n w.1);
      };
      rest = λ m n. fun_ext (λ j. other m j (λ w. n w.0));
    }

    -- the same where the place, the part and what is stored have other names
    pub put-at : {a q y : ℕ} → a ≡ place sh k i → q ≡ part k → y ≡ with_part q (get_or t a 0) x → Put sh t (set t a y) k i x
    put-at {a} {q} {y} e f g =
        let named : set t a y ≡ stored =
        ap (λ (z : ℕ). set t a z) (g ∙ ap (λ (z : ℕ). with_part z (get_or t a 0) x) f)
        ∙ ap (λ (z : ℕ). set t z (with_part (part k) (get_or t z 0) x)) e in
        subst (λ (u : List ℕ). Put sh t u k i x) (sym named) put-set

--------------------------------------------------------------------------------
-- Prices and the choice

pub price-at : (sh : Shape) (sheet : List ℕ) (v : ℕ) → v < sh.groups → price_of sh sheet v ≡ get_or sheet v 0
unfolding price_at
price-at sh sheet v l = simp (lt-ltb v sh.groups l)

pub price-out : (sh : Shape) (sheet : List ℕ) (v : ℕ) → sh.groups ≤ v → price_of sh sheet v ≡ 0
unfolding price_at
price-out sh sheet v l = simp (le-ltb v sh.groups l)

pub put-price : (sh : Shape) (sheet : List ℕ) (v x : ℕ) → v < sh.groups → sh.groups ≤ length sheet → PutPrice sh sheet (set sheet v x) v x
put-price sh sheet v x l m = record {
  long = length-set sheet v x;
  puts = record {
    here = price-at sh (set sheet v x) v l ∙ get_or-set_same sheet v x 0 (omega arith);
    else = λ j n.
        elim (dec_lt j sh.groups) [
          | yes h ↦ price-at sh (set sheet v x) j h ∙ get_or-set_other sheet v j x 0 n ∙ sym (price-at sh sheet j h)
          | no h ↦ price-out sh (set sheet v x) j (omega arith) ∙ sym (price-out sh sheet j (omega arith))
        ];
  };
}

--------------------------------------------------------------------------------
-- What stays as it was

pub keeps-none : {sh : Shape} {P : ℕ → Type 0} {t : List ℕ} → Keeps sh P t t
keeps-none = record { long = refl; rest = λ l n. refl }

pub keeps_then : {sh : Shape} {P : ℕ → Type 0} {t t' t'' : List ℕ} → Keeps sh P t t' → Keeps sh P t' t'' → Keeps sh P t t''
keeps_then A B = record { long = B.long ∙ A.long; rest = λ l n. B.rest l n ∙ A.rest l n }

pub keeps-more : {sh : Shape} {P Q : ℕ → Type 0} {t t' : List ℕ} → ((l : ℕ) → P l → Q l) → Keeps sh P t t' → Keeps sh Q t t'
keeps-more f A = record { long = A.long; rest = λ l n. A.rest l (λ p. n (f l p)) }

pub put_keeps : {sh : Shape} {P : ℕ → Type 0} {t t' : List ℕ} {k i x : ℕ} → P k → Put sh t t' k i x → Keeps sh P t t'
put_keeps p A = record { long = A.long; rest = λ l n. A.rest l (λ e. n (rw e p)) }

pub room-keeps : {sh : Shape} {t t' : List ℕ} → length t' ≡ length t → Room sh t → Room sh t'
room-keeps e R = record { few = R.few; size = omega (arith, R.size) }

--------------------------------------------------------------------------------
-- The network of the tables that are given

pub network-same : {sh : Shape} {P : ℕ → Type 0} {t t' : List ℕ} → ((k : ℕ) → parents ≤ k → P k → ⊥) → Keeps sh P t t' → net_of sh t' ≡ net_of sh t
network-same {sh} n K i = record {
  cards = sh.cards;
  groups = sh.groups;
  rows = sh.rows;
  parent = K.rest parents (n parents (omega arith)) i;
  card = K.rest card_nodes (n card_nodes (omega arith)) i;
  shop = K.rest shop_nodes (n shop_nodes (omega arith)) i;
}

pub residual-same :
    {sh : Shape} {P : ℕ → Type 0} {t t' : List ℕ} (sheet : List ℕ) → ((k : ℕ) → parents ≤ k → P k → ⊥) → Keeps sh P t t' →
    residual_of sh sheet t' ≡ residual_of sh sheet t
residual-same {sh} sheet n K i = record {
  net = network-same n K i;
  weight = K.rest weights (n weights (omega arith)) i;
  price = price_of sh sheet;
  toll = sh.toll;
  free = sh.free;
}

pub arc-in-near : (b x : ℕ) → x - b < span → arc_in b x ≡ x - b
unfolding arc_in
arc-in-near b x l = simp (lt-ltb (x - b) span l)

pub arc-in-far : (b x : ℕ) → span ≤ x - b → arc_in b x ≡ 0
unfolding arc_in
arc-in-far b x l = simp (le-ltb (x - b) span l)
