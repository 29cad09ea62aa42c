-- A shape with another toll, another first free row, or another label of the fresh nodes: no table reads these.
--   sized sh free toll fresh       the shape of the same sizes with these three
--   room-sized keeps-sized         what holds of the tables holds under it
--   links-class                    no list reads the first free row, nor the label of the fresh nodes
--   state-class filled-class       the state, and a filling, under them
use mathlib.Core.Logic.{inl, inr}
use mathlib.Core.List.{List}
use Prim.Native.Nat.{ℕ, ◌+◌, ◌*◌, ◌≤◌}
use Rattle.theory.specs.Bounds.{cell_bound}
use Rattle.theory.specs.Residual.{Residual, freed}
use Rattle.scratch.specs.declared.Shape.{Shape}
use Rattle.scratch.specs.Map.{span, Room, Keeps}
use Rattle.scratch.specs.View.{residual_of}
use Rattle.residual.specs.Items.{Item, Unlisted, Least, Linked, Links}
use Rattle.prices.specs.State.{with_class, limit_of, State, Filled}

abbrev pub sized : Shape → ℕ → ℕ → ℕ → Shape
sized sh free toll fresh =
    record { cards = sh.cards; groups = sh.groups; rows = sh.rows; free = free; toll = toll; fresh = fresh }

module _ (sh : Shape) (free toll fresh : ℕ) where
  pub room-sized : {t : List ℕ} → fresh + 2 * span ≤ cell_bound → Room sh t → Room (sized sh free toll fresh) t
  room-sized low R = record {
    few = record { some = R.few.some; groups = R.few.groups; rows = R.few.rows; fresh = low };
    size = R.size;
  }

  pub keeps-sized : {P : ℕ → Type 0} {t t' : List ℕ} → Keeps sh P t t' → Keeps (sized sh free toll fresh) P t t'
  keeps-sized K = record { long = K.long; rest = K.rest }

item-freed : (r : Residual) (m u j : ℕ) → Item r u j → Item (freed r m) u j
item-freed r m u j (inl A) = inl (record { row = A.row; at = A.at; even = A.even })
item-freed r m u j (inr A) = inr (record { v = A.v; group = A.group; code = A.code; at = A.at; even = A.even })

module _ (r : Residual) (m : ℕ) where
  unlisted-freed : {spare : ℕ → ℕ} {u j : ℕ} → Unlisted r spare u j → Unlisted (freed r m) spare u j
  unlisted-freed N = record { tolled = N.tolled; source = N.source; v = N.v; code = N.code; full = N.full }

  least-freed : {spare : ℕ → ℕ} (u lo k : ℕ) → Least r spare u lo k → Least (freed r m) spare u lo k
  least-freed u lo k A = record {
    low = A.low;
    high = A.high;
    item = λ l. item-freed r m u k (A.item l);
    none = λ i l h B. unlisted-freed (A.none i l h (item-freed (freed r m) r.free u i B));
  }

  linked-freed :
      {spare first child card shop : ℕ → ℕ} {lo : ℕ} → Linked r spare first child card shop lo →
      Linked (freed r m) spare first child card shop lo
  linked-freed {first = first} {child} {card} {shop} {lo} L = record {
    at_first = λ u l. least-freed u lo (first u) (L.at_first u l);
    at_child = λ v l h e. least-freed (r.net.parent v) (r.net.rows + v + 1) (child v) (L.at_child v l h e);
    at_card = λ c l h e. least-freed (r.net.card c) (c + 1) (card c) (L.at_card c l h e);
    at_shop = λ c l h e. least-freed (r.net.shop c) (c + 1) (shop c) (L.at_shop c l h e);
  }

module _ (sh : Shape) (free fresh : ℕ) where
  pub links-class : (sheet t : List ℕ) {lo : ℕ} → Links sh sheet t lo → Links (with_class sh free fresh) sheet t lo
  links-class sheet t L = linked-freed (residual_of sh sheet t) free L

  pub state-class :
      {ch sheet t : List ℕ} → fresh + 2 * span ≤ cell_bound → State sh ch sheet t → State (with_class sh free fresh) ch sheet t
  unfolding limit_of
  state-class low I = record {
    room = room-sized sh free sh.toll fresh low I.room;
    prices = I.prices;
    choices = I.choices;
    formed = I.formed;
    level = I.level;
    range = I.range;
    low = I.low;
  }

-- back from another first free row and label
module _ {sh : Shape} {free fresh : ℕ} {ch sheet t ch' t' : List ℕ} where
  pub filled-class :
      sh.fresh + 2 * span ≤ cell_bound → Filled (with_class sh free fresh) ch sheet t ch' t' → Filled sh ch sheet t ch' t'
  unfolding limit_of
  filled-class low F = record {
    state = state-class (with_class sh free fresh) sh.free sh.fresh low F.state;
    keeps = keeps-sized (with_class sh free fresh) sh.free sh.toll sh.fresh F.keeps;
    limits = F.limits;
    more = F.more;
  }
