-- The numbers of the tables and of the parts of a cell, by which the laws of the map speak of them.
--   number_of t      the number of table t
--   part_number p    the number of part p: 0 the whole, 1 the low half, 2 the high half
use Rattle.std.specs.Prelude.{ℕ}
use Rattle.scratch.specs.Map.{labels, queues, spares, firsts, child_afters, card_afters, shop_afters, parents, card_nodes, shop_nodes, weights}
use Rattle.scratch.specs.declared.cells.Table.{Table}
use Rattle.scratch.specs.declared.cells.Table.TheVariants.{Labels, Queues, Spares, Firsts, ChildAfters, CardAfters, ShopAfters, Parents, CardNodes, ShopNodes, Weights}
use Rattle.scratch.specs.declared.cells.Part.{Part}
use Rattle.scratch.specs.declared.cells.Part.TheVariants.{Whole, Low, High}

abbrev pub number_of : Table → ℕ
number_of Labels = labels
number_of Queues = queues
number_of Spares = spares
number_of Firsts = firsts
number_of ChildAfters = child_afters
number_of CardAfters = card_afters
number_of ShopAfters = shop_afters
number_of Parents = parents
number_of CardNodes = card_nodes
number_of ShopNodes = shop_nodes
number_of Weights = weights

abbrev pub part_number : Part → ℕ
part_number Whole = 0
part_number Low = 1
part_number High = 2
