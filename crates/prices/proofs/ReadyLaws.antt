-- What the solver's state gives.
--   state-ready state-linkable    it is what the functions over arcs ask, and what linking asks
--   state-counts           places left and kept rows make the limits
--   state-toll             new prices and another toll in place of the old
use mathlib.Core.Path.{◌≡◌, refl}
use mathlib.Core.List.{List}
use Prim.Native.Nat.{ℕ}
use native.Mathlib.Omega.{arith}
use lib.ListN.{length}
use Rattle.theory.specs.Level.{Level, Counts, Range}
use Rattle.scratch.specs.declared.Shape.{Shape}
use Rattle.scratch.specs.Map.{spare_of, weight_of, price_of, kept_of}
use Rattle.residual.specs.State.{highest, Ready}
use Rattle.residual.specs.Items.{Linkable}
use Rattle.scratch.specs.View.{net_of}
use Rattle.prices.specs.State.{with_toll, limit_of, State}

pub state-ready : {sh : Shape} {ch sheet t : List ℕ} → State sh ch sheet t → Ready sh ch sheet t
state-ready I = record {
  buffers = record { room = I.room; sheets = I.prices; choices = I.choices };
  formed = I.formed;
  priced = record {
    small = λ v. omega (arith, I.range v);
    small_toll = omega (arith, I.range 0);
    rises = I.level.rising.up;
    bits = I.level.choice.bits;
    out = I.level.out;
    kept = I.level.kept;
  };
}

pub state-linkable : {sh : Shape} {ch sheet t : List ℕ} → State sh ch sheet t → Linkable sh sheet t
state-linkable I =
    let R = state-ready I in
    record {
      room = R.buffers.room;
      sheets = R.buffers.sheets;
      formed = R.formed;
      small = R.priced.small;
      small_toll = R.priced.small_toll;
    }

module _ (sh : Shape) (ch t : List ℕ) where
  pub state-counts : Counts (net_of sh t) (limit_of sh ch t) (kept_of ch) (spare_of sh t)
  unfolding limit_of
  state-counts v l = refl

  module _ (toll : ℕ) where
    pub state-toll :
        (sheet sheet' : List ℕ) → State sh ch sheet t → length sheet' ≡ length sheet →
        Level (net_of sh t) (limit_of sh ch t) (weight_of sh t) (price_of sh sheet') toll (kept_of ch) →
        Range highest (price_of sh sheet') toll → State (with_toll sh toll) ch sheet' t
    unfolding limit_of
    state-toll sheet sheet' I long level range = record {
      room = record {
        few = record { some = I.room.few.some; groups = I.room.few.groups; rows = I.room.few.rows; fresh = I.room.few.fresh };
        size = I.room.size;
      };
      prices = omega (arith, I.prices);
      choices = I.choices;
      formed = I.formed;
      level = level;
      range = range;
      low = I.low;
    }
