-- The tally during the day (document 02, E14): what a tally holds, and what each call on it answers and leaves.
--   tally tb st            the tally with these tables and this state
--   none_in cards shops rows    the state of a tally with so many groups and rows, in which no row is in
--   none                   no row
--   Holds i t X            the tally t is one of the day i, and the rows X are in: its tables are the day's, each count is the number of rows
--                          of X that count in the group, and X fits both sides. It says what every cell holds
--   put_number, take_number  the number that putting in or taking out a row answers, by the rows X that are in: 9, then 18, 19, 20 in this
--                          order, and 0 where it is done
--   after_call number next  the rows that are in after a call on a row, which answers `number` and makes `next` of them where that is 0: a
--                          refused call changes nothing
--   after_put, after_take    the same of putting in, and of taking out
--   Changed number next t c n t'   such a call on row c finds the tally t, answers n and leaves t'
--   PutIn, TakenOut        the same of putting in, and of taking out
--   lacking, told n        what is told of a count: 9 where the side or the group is not there, or the count
--   shown_of d X side g     what is told of group g of a side
--   Shows st side g r      reading a count in the state st answers r
--   CountRead t side g r t'    the same of a tally that is found and left
-- "A row is put in, taken out, or a group's count is read. After any run of calls a group's count is the number of rows put in and not taken
-- out since that count in it, refused calls changing nothing, and those rows always fit both sides. .. A row, side or group that the file
-- lacks gives 9. New numbers: 18, putting in a row that is in; 19, taking out a row that is not; 20, putting in a row that would pass a
-- limit; in this order after 9."
use Rattle.std.specs.Prelude.{◌≡◌, ◌≢◌, List, ℕ, zero, suc, ◌+◌, ◌≤◌, ltb, leb, eqb, length, replicate}
use Rattle.theory.specs.Bounds.{max_rows}
use Rattle.theory.specs.Sum.{pick}
use Rattle.theory.specs.Incidence.{plus}
use Rattle.theory.specs.Level.{count}
use Rattle.theory.specs.Network.{Network, Instance, fits_both, Choice}
use Rattle.theory.specs.Formed.{Formed}
use Rattle.exchange.specs.Exchange.{minus}
use Rattle.answers.specs.declared.TallyCountAnswer.{TallyCountAnswer}
use Rattle.refusal.specs.declared.Reason.TheVariants.{Value, Inside, Outside, Full}
use Rattle.refusal.specs.Table.{number_of}
use Rattle.tally.specs.declared.State.{State}
use Rattle.tally.specs.declared.Tally.{Tally}
use Rattle.tally.specs.Cells.{nodes, cells, Table, up_to, cell_of}

abbrev pub tally : List ℕ → State → Tally
tally tb st = record { tables = tb; state = st }

abbrev pub none_in : ℕ → ℕ → ℕ → State
none_in cards shops rows =
    record { cards = cards; shops = shops; rows = rows; counts = replicate nodes 0; selection = replicate max_rows 0 }

abbrev pub none : ℕ → ℕ
none c = 0

pub record Holds (i : Instance) (t : Tally) (X : ℕ → ℕ) : Type 0 where
  -- the day has a cell for each group and each row
  pub formed : Formed i.net
  pub groups_most : i.net.groups ≤ nodes
  pub rows_most : i.net.rows ≤ max_rows
  pub cards : t.state.cards ≡ i.net.cards
  pub shops : i.net.cards + t.state.shops ≡ i.net.groups
  pub rows : t.state.rows ≡ i.net.rows
  pub tables : Table cells (cell_of i) t.tables
  -- these arrays of a tally have their lengths by their types
  pub long_counts : length t.state.counts ≡ nodes
  pub long_selection : length t.state.selection ≡ max_rows
  pub selection : Table max_rows (up_to i.net.rows X) t.state.selection
  pub counts : Table nodes (up_to i.net.groups (count i.net X)) t.state.counts
  pub choice : Choice i.net i.limit X

--------------------------------------------------------------------------------
-- The calls, by the rows that are in

unfoldable pub put_number : Instance → (ℕ → ℕ) → ℕ → ℕ
put_number i X c =
    pick (leb i.net.rows c)
    (number_of Value)
    (pick (eqb (X c) 1) (number_of Inside) (pick (fits_both i.net i.limit (plus X c)) 0 (number_of Full)))

unfoldable pub take_number : Instance → (ℕ → ℕ) → ℕ → ℕ
take_number i X c = pick (leb i.net.rows c) (number_of Value) (pick (eqb (X c) 1) 0 (number_of Outside))

unfoldable pub after_call : (Instance → (ℕ → ℕ) → ℕ → ℕ) → ((ℕ → ℕ) → ℕ → ℕ → ℕ) → Instance → (ℕ → ℕ) → ℕ → ℕ → ℕ
after_call number next i X c = pick (eqb (number i X c) 0) (next X c) X

abbrev pub after_put : Instance → (ℕ → ℕ) → ℕ → ℕ → ℕ
after_put = after_call put_number plus

abbrev pub after_take : Instance → (ℕ → ℕ) → ℕ → ℕ → ℕ
after_take = after_call take_number minus

pub record Changed (number : Instance → (ℕ → ℕ) → ℕ → ℕ) (next : (ℕ → ℕ) → ℕ → ℕ → ℕ) (t : Tally) (c n : ℕ) (t' : Tally) : Type 0 where
  pub holds :
      (i : Instance) (X : ℕ → ℕ) → Holds i t X → (n ≡ number i X c) × Holds i t' (after_call number next i X c)
  -- of any tally
  pub lacks : t.state.rows ≤ c → n ≡ number_of Value
  pub still : n ≢ 0 → t' ≡ t

abbrev pub PutIn : Tally → ℕ → ℕ → Tally → Type 0
PutIn = Changed put_number plus

abbrev pub TakenOut : Tally → ℕ → ℕ → Tally → Type 0
TakenOut = Changed take_number minus

--------------------------------------------------------------------------------
-- A group's count

abbrev pub lacking : TallyCountAnswer
lacking = record { refusal = number_of Value; count = 0 }

abbrev pub told : ℕ → TallyCountAnswer
told n = record { refusal = 0; count = n }

unfoldable pub shown_of : Network → (ℕ → ℕ) → ℕ → ℕ → TallyCountAnswer
shown_of d X zero g = pick (ltb g d.cards) (told (count d X g)) lacking
shown_of d X (suc zero) g = pick (ltb (d.cards + g) d.groups) (told (count d X (d.cards + g))) lacking
shown_of d X (suc (suc side)) g = lacking

pub record Shows (st : State) (side g : ℕ) (r : TallyCountAnswer) : Type 0 where
  pub holds :
      (i : Instance) (tb : List ℕ) (X : ℕ → ℕ) → Holds i (tally tb st) X → r ≡ shown_of i.net X side g
  -- of any tally
  pub lacks : st.cards ≡ 0 → st.shops ≡ 0 → r ≡ lacking

abbrev pub CountRead : Tally → ℕ → ℕ → TallyCountAnswer → Tally → Type 0
CountRead t side g r t' = Shows t.state side g r × (t' ≡ t)
