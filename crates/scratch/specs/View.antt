-- The lent buffers as a network and as a residual network.
--   net_of sh t             the network in the tables of the scratch
--   residual_of sh sheet t  that network with the rows' weights, the prices in the sheet, the toll and the first free row
use Rattle.std.specs.Prelude.{List, ℕ}
use Rattle.theory.specs.Network.{Network}
use Rattle.theory.specs.Residual.{Residual}
use Rattle.scratch.specs.declared.Shape.{Shape}
use Rattle.scratch.specs.Map.{parent_of, card_of, shop_of, weight_of, price_of}

abbrev pub net_of : Shape → List ℕ → Network
net_of sh t = record {
  cards = sh.cards;
  groups = sh.groups;
  rows = sh.rows;
  parent = parent_of sh t;
  card = card_of sh t;
  shop = shop_of sh t;
}

abbrev pub residual_of : Shape → List ℕ → List ℕ → Residual
residual_of sh sheet t = record {
  net = net_of sh t;
  weight = weight_of sh t;
  price = price_of sh sheet;
  toll = sh.toll;
  free = sh.free;
}
