-- Lent memory of 64-bit cells. Every number that is put there is below 2 ^ 32, so the low half of a cell counts, whatever the high half
-- holds.
--   low x           the low half of a cell
--   lows w          the low halves of all cells
--   lows-long       there are as many of them as cells
--   lows-at         each is the half of its cell
--   lows-cleared    those of cleared cells are 0
use Rattle.std.specs.Prelude.{◌≡◌, List, ℕ, ◌%◌, length, get_or, map}
use Rattle.std.proofs.Common.{sym, ap, ◌∙◌}
use Rattle.std.proofs.lemmas.List.{length-map}
use Rattle.std.proofs.Math.ListN.{get_or-map}
use Rattle.theory.specs.Bounds.{cell_bound}
use Rattle.scratch.specs.Clear.{Cleared}

abbrev pub low : ℕ → ℕ
low x = x % cell_bound

abbrev pub lows : List ℕ → List ℕ
lows w = map low w

pub lows-long : (w : List ℕ) → length (lows w) ≡ length w
lows-long w = length-map w low

pub lows-at : (w : List ℕ) (i : ℕ) → get_or (lows w) i 0 ≡ low (get_or w i 0)
lows-at w i = get_or-map low w i 0

pub lows-cleared : (w w' : List ℕ) → Cleared w w' → Cleared (lows w) (lows w')
lows-cleared w w' C = record {
  long = lows-long w' ∙ C.long ∙ sym (lows-long w);
  zero = λ i. lows-at w' i ∙ ap low (C.zero i);
}
