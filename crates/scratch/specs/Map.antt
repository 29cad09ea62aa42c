-- The map of the lent buffers (DESIGN.md, section 6). The scratch slice holds eleven tables. Labels and weights take a whole cell; every
-- other number is below 2 ^ 16 and takes half of one. What is read together stands together, as the fields of one record for each node,
-- group or row. A record has two cells, so that the processor finds one by its index with no sum before; the weights stand alone. For g
-- groups and n rows, with the low half of a cell before its high half:
--   section   records    from             first cell                   second cell
--   nodes     g + 2      0                label                        first, queue
--   groups    g          2 g + 4          after a child, spare         parent, queue of place g + 2
--   rows      n          4 g + 4          card node, after at card     shop node, after at shop
--   weights   n          4 g + 2 n + 4    weight
-- Place i of the queue is the high half of cell 2 i + 1 for every i. It has one place more than there are nodes, and that one lies in the
-- record of group 0.
-- The names:
--   widths g n         how many cells each table has, in the order of the tables' numbers
--   bases g n, strides    where its cell 0 lies, and how far it is from one cell to the next
--   parts              which part of a cell it takes: 0 the whole, 1 the low half, 2 the high half
--   width sh k, base sh k, stride k, part k    the same for table k
--   place sh k i       where cell i of table k lies
--   cells sh           how many cells the tables take together
--   half               what every number in half a cell is below: 2 ^ 16
--   part_of p x, with_part p x y    part p of x, and x with y in that part
--   bound p            what every number in part p is below
--   table sh t k i     cell i of table k, and 0 outside the table (cell_at, of the sizes alone)
--   labels queues spares firsts child_afters card_afters shop_afters parents card_nodes shop_nodes weights    the tables' numbers
--   span               how many labels one class has: more than there are arcs
--   max_spare           the most places that a group is given: one more than there are rows, which is as good as any more
--   label_of sh t v     the label of node v: that of its class; where it was reached, more by the arc by which it was reached, plus 1
--   arc_in b x          that arc plus 1, in label x, for the class with label b; 0 where x is b or a label of another class
--   pred_of sh t v      the arc by which node v was reached, plus 1; 0 where it was not reached
--   queue_of sh t i     the node that was reached in place i
--   spare_of sh t v     how many places group v has left
--   first_of sh t v     the least item that hangs at node v
--   after_child_of after_card_of after_shop_of    the next item at a child's parent, at a row's card node, at its shop node
--   parent_of card_of shop_of weight_of         the network and the weights, as they are given
--   price_of sh sheet v    the price of node v: a group's from the sheet, a root's 0 (price_at, of the number of groups alone)
--   row_price sh sheet t c    the prices of the two nodes where row c hangs
--   kept_of ch c        1 where row c is in the choice, else 0
--   Few sh, Room sh t  the bounds on the sizes (the queue needs the record of one group), and a scratch slice that is long enough
--   Cell sh k i        table k has a cell i
--   Put sh t t' k i x  t' is t but for x in cell i of table k
--   Keeps sh P t t'    t' is t but for the tables of P
--   OnlySearch OnlyLabels OnlySpare OnlyLists    the same for label and queue, for label, for spare, and for the item lists
--   PutPrice PutKept   the same for a price in the sheet and for a byte of the choice
-- A table is named by its number. Callers know the views and never where a cell lies.
use Rattle.std.specs.Prelude.{◌≡◌, List, [], ◌∷◌, ℕ, zero, suc, ◌+◌, ◌*◌, ◌-◌, ◌/◌, ◌%◌, ◌≤◌, ◌<◌, ltb, length, get_or}
use Rattle.theory.specs.Bounds.{max_groups, max_rows, cell_bound}
use Rattle.theory.specs.Sum.{pick}
use Rattle.theory.specs.Turn.{Puts}
use Rattle.scratch.specs.declared.Shape.{Shape}

abbrev pub widths : ℕ → ℕ → List ℕ
widths g n = (g + 2) ∷ (g + 3) ∷ g ∷ (g + 2) ∷ g ∷ n ∷ n ∷ g ∷ n ∷ n ∷ n ∷ []

abbrev pub bases : ℕ → ℕ → List ℕ
bases g n =
    0 ∷ 1 ∷ (2 * g + 4) ∷ 1 ∷ (2 * g + 4) ∷ (4 * g + 4) ∷ (4 * g + 5) ∷ (2 * g + 5) ∷ (4 * g + 4) ∷ (4 * g + 5) ∷ (4 * g + 2 * n + 4) ∷ []

abbrev pub strides : List ℕ
strides = 2 ∷ 2 ∷ 2 ∷ 2 ∷ 2 ∷ 2 ∷ 2 ∷ 2 ∷ 2 ∷ 2 ∷ 1 ∷ []

abbrev pub parts : List ℕ
parts = 0 ∷ 2 ∷ 2 ∷ 1 ∷ 1 ∷ 2 ∷ 2 ∷ 1 ∷ 1 ∷ 1 ∷ 0 ∷ []

abbrev pub cells : Shape → ℕ
cells sh = 4 * sh.groups + 3 * sh.rows + 4

abbrev pub width : Shape → ℕ → ℕ
width sh k = get_or (widths sh.groups sh.rows) k 0

abbrev pub base : Shape → ℕ → ℕ
base sh k = get_or (bases sh.groups sh.rows) k 0

abbrev pub stride : ℕ → ℕ
stride k = get_or strides k 0

abbrev pub part : ℕ → ℕ
part k = get_or parts k 0

abbrev pub place : Shape → ℕ → ℕ → ℕ
place sh k i = base sh k + stride k * i

abbrev pub half : ℕ
half = 65536

abbrev pub part_of : ℕ → ℕ → ℕ
part_of zero x = x
part_of (suc zero) x = x % half
part_of (suc (suc p)) x = x / half % half

abbrev pub with_part : ℕ → ℕ → ℕ → ℕ
with_part zero x y = y
with_part (suc zero) x y = x / half * half + y
with_part (suc (suc p)) x y = x % half + y * half

abbrev pub bound : ℕ → ℕ
bound zero = cell_bound
bound (suc p) = half

unfoldable pub cell_at : ℕ → ℕ → List ℕ → ℕ → ℕ → ℕ
cell_at g n t k i = pick (ltb i (get_or (widths g n) k 0)) (part_of (part k) (get_or t (get_or (bases g n) k 0 + stride k * i) 0)) 0

abbrev pub table : Shape → List ℕ → ℕ → ℕ → ℕ
table sh t k = cell_at sh.groups sh.rows t k

--------------------------------------------------------------------------------
-- The tables by name

abbrev pub labels : ℕ
labels = 0

abbrev pub queues : ℕ
queues = 1

abbrev pub spares : ℕ
spares = 2

abbrev pub firsts : ℕ
firsts = 3

abbrev pub child_afters : ℕ
child_afters = 4

abbrev pub card_afters : ℕ
card_afters = 5

abbrev pub shop_afters : ℕ
shop_afters = 6

abbrev pub parents : ℕ
parents = 7

abbrev pub card_nodes : ℕ
card_nodes = 8

abbrev pub shop_nodes : ℕ
shop_nodes = 9

abbrev pub weights : ℕ
weights = 10

abbrev pub span : ℕ
span = 2048

abbrev pub max_spare : ℕ
max_spare = max_rows + 1

abbrev pub label_of : Shape → List ℕ → ℕ → ℕ
label_of sh t = table sh t labels

unfoldable pub arc_in : ℕ → ℕ → ℕ
arc_in b x = pick (ltb (x - b) span) (x - b) 0

abbrev pub pred_of : Shape → List ℕ → ℕ → ℕ
pred_of sh t v = arc_in sh.fresh (label_of sh t v)

abbrev pub queue_of : Shape → List ℕ → ℕ → ℕ
queue_of sh t = table sh t queues

abbrev pub spare_of : Shape → List ℕ → ℕ → ℕ
spare_of sh t = table sh t spares

abbrev pub first_of : Shape → List ℕ → ℕ → ℕ
first_of sh t = table sh t firsts

abbrev pub after_child_of : Shape → List ℕ → ℕ → ℕ
after_child_of sh t = table sh t child_afters

abbrev pub after_card_of : Shape → List ℕ → ℕ → ℕ
after_card_of sh t = table sh t card_afters

abbrev pub after_shop_of : Shape → List ℕ → ℕ → ℕ
after_shop_of sh t = table sh t shop_afters

abbrev pub parent_of : Shape → List ℕ → ℕ → ℕ
parent_of sh t = table sh t parents

abbrev pub card_of : Shape → List ℕ → ℕ → ℕ
card_of sh t = table sh t card_nodes

abbrev pub shop_of : Shape → List ℕ → ℕ → ℕ
shop_of sh t = table sh t shop_nodes

abbrev pub weight_of : Shape → List ℕ → ℕ → ℕ
weight_of sh t = table sh t weights

unfoldable pub price_at : ℕ → List ℕ → ℕ → ℕ
price_at g sheet v = pick (ltb v g) (get_or sheet v 0) 0

abbrev pub price_of : Shape → List ℕ → ℕ → ℕ
price_of sh sheet = price_at sh.groups sheet

abbrev pub row_price : Shape → List ℕ → List ℕ → ℕ → ℕ
row_price sh sheet t c = price_of sh sheet (card_of sh t c) + price_of sh sheet (shop_of sh t c)

abbrev pub kept_of : List ℕ → ℕ → ℕ
kept_of ch c = get_or ch c 0

--------------------------------------------------------------------------------
-- What the readers and writers ask and promise

pub record Few (sh : Shape) : Type 0 where
  pub some : 0 < sh.groups
  pub groups : sh.groups ≤ 2 * max_groups
  pub rows : sh.rows ≤ max_rows
  pub fresh : sh.fresh + 2 * span ≤ cell_bound

pub record Room (sh : Shape) (t : List ℕ) : Type 0 where
  pub few : Few sh
  pub size : cells sh ≤ length t

-- cell i of table k is one of the map's
pub record Cell (sh : Shape) (k i : ℕ) : Type 0 where
  pub table : k < 11
  pub index : i < width sh k

pub record Put (sh : Shape) (t t' : List ℕ) (k i x : ℕ) : Type 0 where
  pub long : length t' ≡ length t
  pub puts : Puts (table sh t k) (table sh t' k) i x
  pub rest : (l : ℕ) → (l ≡ k → ⊥) → table sh t' l ≡ table sh t l

pub record Keeps (sh : Shape) (P : ℕ → Type 0) (t t' : List ℕ) : Type 0 where
  pub long : length t' ≡ length t
  pub rest : (l : ℕ) → (P l → ⊥) → table sh t' l ≡ table sh t l

-- what a search, the giving of labels, a flip and the building of the item lists may change
abbrev pub OnlySearch : Shape → List ℕ → List ℕ → Type 0
OnlySearch sh t t' = Keeps sh (λ k. k < spares) t t'

abbrev pub OnlyLabels : Shape → List ℕ → List ℕ → Type 0
OnlyLabels sh t t' = Keeps sh (λ k. k ≡ labels) t t'

abbrev pub OnlySpare : Shape → List ℕ → List ℕ → Type 0
OnlySpare sh t t' = Keeps sh (λ k. k ≡ spares) t t'

abbrev pub OnlyLists : Shape → List ℕ → List ℕ → Type 0
OnlyLists sh t t' = Keeps sh (λ k. (firsts ≤ k) × (k < parents)) t t'

-- the price of group v, or the choice of row c, becomes x
pub record PutPrice (sh : Shape) (sheet sheet' : List ℕ) (v x : ℕ) : Type 0 where
  pub long : length sheet' ≡ length sheet
  pub puts : Puts (price_of sh sheet) (price_of sh sheet') v x

pub record PutKept (ch ch' : List ℕ) (c x : ℕ) : Type 0 where
  pub long : length ch' ≡ length ch
  pub puts : Puts (kept_of ch) (kept_of ch') c x
