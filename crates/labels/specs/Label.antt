-- The two labels of nodes, and what they tell of the rows.
--   from_source, to_sink     the labels of the nodes that are reached from the source, and of those that reach the sink. The others
--                          have the label 0
--   Reads sh t c n         n is what the labels of row c's nodes tell
--   Coding sh t ch ch' m   the first m bytes are so
use Rattle.std.specs.Prelude.{◌≡◌, ◌⊎◌, ◌≢◌, List, ℕ, ◌*◌, ◌<◌, length}
use Rattle.scratch.specs.declared.Shape.{Shape}
use Rattle.scratch.specs.Map.{span, label_of, card_of, shop_of, weight_of, kept_of}

abbrev pub from_source : ℕ
from_source = span

abbrev pub to_sink : ℕ
to_sink = 2 * span

pub record Reads (sh : Shape) (t : List ℕ) (c n : ℕ) : Type 0 where
  pub plain : weight_of sh t c ≢ sh.toll → n ≡ 0
  pub ahead :
      weight_of sh t c ≡ sh.toll → label_of sh t (card_of sh t c) ≡ from_source → label_of sh t (shop_of sh t c) ≡ from_source → n ≡ 1
  pub behind :
      weight_of sh t c ≡ sh.toll → label_of sh t (card_of sh t c) ≡ to_sink → label_of sh t (shop_of sh t c) ≡ to_sink → n ≡ 2
  pub rest :
      weight_of sh t c ≡ sh.toll →
      (label_of sh t (card_of sh t c) ≢ from_source) ⊎ (label_of sh t (shop_of sh t c) ≢ from_source) →
      (label_of sh t (card_of sh t c) ≢ to_sink) ⊎ (label_of sh t (shop_of sh t c) ≢ to_sink) → n ≡ 3

pub record Coding (sh : Shape) (t ch ch' : List ℕ) (m : ℕ) : Type 0 where
  pub long : length ch' ≡ length ch
  pub read : (c : ℕ) → c < m → Reads sh t c (kept_of ch' c)
