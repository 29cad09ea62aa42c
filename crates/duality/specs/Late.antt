-- One row more at the end of a day, and how far the counts of the best choice move (document 02, E8).
--   earned_in i, kept_in i   how many earned rows the best choice of a day keeps, and how many rows
--   Longer i j             the day j is the day i with one row more, at the end
--   AtMostOne e k e' k'    of the earned and kept counts e and k before and e' and k' after: the earned count stays or rises by one; the
--                          kept count falls by one, stays, or rises by one; and it falls only where the earned count rises
-- `one_more_lem` (proofs/RowLaws.antt) is the theorem: the counts of two days so related are `AtMostOne`.
use Rattle.std.specs.Prelude.{◌≡◌, ◌⊎◌, ℕ, ◌+◌, ◌<◌}
use Rattle.theory.specs.Incidence.{size}
use Rattle.theory.specs.Matroid.{row}
use Rattle.theory.specs.Network.{Instance}
use Rattle.theory.specs.Priority.{kept}
use Rattle.theory.specs.Search.{best_choice}

abbrev pub earned_in : Instance → ℕ
earned_in i = kept i.net.rows i.kind (row (best_choice i.net i.limit 2 i.kind)) 1

abbrev pub kept_in : Instance → ℕ
kept_in i = size i.net.rows (row (best_choice i.net i.limit 2 i.kind))

pub record Longer (i j : Instance) : Type 0 where
  pub cards : i.net.cards ≡ j.net.cards
  pub groups : i.net.groups ≡ j.net.groups
  pub rows : j.net.rows ≡ i.net.rows + 1
  pub parent : (v : ℕ) → v < i.net.groups → i.net.parent v ≡ j.net.parent v
  pub card : (c : ℕ) → c < i.net.rows → i.net.card c ≡ j.net.card c
  pub shop : (c : ℕ) → c < i.net.rows → i.net.shop c ≡ j.net.shop c
  pub limits : (v : ℕ) → v < i.net.groups → i.limit v ≡ j.limit v
  pub kinds : (c : ℕ) → c < i.net.rows → i.kind c ≡ j.kind c

-- "The earned count then stays or rises by one. The kept count falls by one, stays, or rises by one."
pub record AtMostOne (e k e' k' : ℕ) : Type 0 where
  pub earned : (e' ≡ e) ⊎ (e' ≡ e + 1)
  pub kept : (k ≡ k' + 1) ⊎ ((k' ≡ k) ⊎ (k' ≡ k + 1))
  -- with as many earned rows as before, no row is lost: the old choice still fits
  pub falls : k ≡ k' + 1 → e' ≡ e + 1
