-- How a tally is begun (document 02, E14).
--   Reads s l i tb         the file s is sound with the layout l, and the first i cells of the tables tb are those of its day
--   Empty t                a tally without rows or groups: every cell is 0
--   Started f s n t        t was begun from the file s in the form f: n is 0 and no row is in; or n is why not, a refusal of the file or
--                          12, and the tally is empty
-- "A tally begun from a file and a day holds its tables, which rows are in (none at first), and each group's count .. A refused beginning
-- gives one without rows or groups."
use Rattle.std.specs.Prelude.{◌≡◌, List, ℕ, ◌<◌, ◌≤◌, Ok, Err}
use Rattle.theory.specs.Bounds.{max_rows}
use Rattle.claimfile.specs.declared.Form.{Form}
use Rattle.claimfile.specs.declared.Layout.{Layout}
use Rattle.claimfile.specs.File.{days}
use Rattle.claimfile.specs.Day.{instance_of}
use Rattle.claimfile.specs.Sound.{Sound}
use Rattle.reader.specs.declared.Refusal.{Refusal}
use Rattle.reader.specs.Reading.{reading}
use Rattle.refusal.specs.declared.Reason.TheVariants.{File, Day}
use Rattle.refusal.specs.Table.{number_of}
use Rattle.tally.specs.declared.Tally.{Tally}
use Rattle.tally.specs.Cells.{nodes, cells, Table, cell_of}
use Rattle.tally.specs.Tally.{Holds, none}

pub record Reads (s : List ℕ) (l : Layout) (i : ℕ) (tb : List ℕ) : Type 0 where
  pub sound : Sound s l
  pub table : Table i (cell_of (instance_of s l)) tb

pub record Empty (t : Tally) : Type 0 where
  pub cards : t.state.cards ≡ 0
  pub shops : t.state.shops ≡ 0
  pub rows : t.state.rows ≡ 0
  pub tables : Table cells none t.tables
  pub selection : Table max_rows none t.state.selection
  pub counts : Table nodes none t.state.counts

pub record Started (f : Form) (s : List ℕ) (n : ℕ) (t : Tally) : Type 0 where
  pub refused : (why : Refusal) → reading f s ≡ Err why → (n ≡ number_of (File why)) × Empty t
  pub dayless : (l : Layout) → reading f s ≡ Ok l → days ≤ l.day → (n ≡ number_of Day) × Empty t
  pub accepted : (l : Layout) → reading f s ≡ Ok l → l.day < days → (n ≡ 0) × Holds (instance_of s l) t none
