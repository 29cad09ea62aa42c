-- A tally of document 01's day A, worked by hand: cards c0, c1 and shop groups s0, s1 at the top with limit 1; rows c0/s0 earned, c0/s1,
-- c1/s0. Row 0 is earned and counts in s0 alone.
--   Asked                  a call with what it answers: its number, and for a read the count
--   asked                  the same, written in a line
--   answer i X call        what a call answers, where the rows X are in before
--   answers i X asked      what the calls of a run answer, where the rows X are in before
--   answers_by s x run      the same of a file s that was read as x, with no row in before
--   run                    a run of calls with their answers; `run-old` and `run-week` (proofs/Examples.antt) say that they are these
use Rattle.std.specs.Prelude.{List, [], ◌∷◌, ℕ, Ok, Err}
use Rattle.theory.specs.Network.{Instance}
use Rattle.claimfile.specs.Day.{instance_of}
use Rattle.tally.specs.Tally.{none, put_number, take_number, shown_of}
use Rattle.tallyruns.specs.Runs.{Call, after}
use Rattle.tallyruns.specs.Runs.Call.{put, taken, read}
use Rattle.reader.specs.Reading.{Reading}

pub record Asked : Type 0 where
  pub call : Call
  pub number : ℕ
  pub count : ℕ

abbrev pub asked : Call → ℕ → ℕ → Asked
asked call number count = record { call = call; number = number; count = count }

abbrev pub answer : Instance → (ℕ → ℕ) → Call → Asked
answer i X (put c) = asked (put c) (put_number i X c) 0
answer i X (taken c) = asked (taken c) (take_number i X c) 0
answer i X (read side g) = asked (read side g) (shown_of i.net X side g).refusal (shown_of i.net X side g).count

abbrev pub answers : Instance → (ℕ → ℕ) → List Asked → List Asked
answers i X [] = []
answers i X (a ∷ more) = answer i X a.call ∷ answers i (after i X a.call) more

abbrev pub answers_by : List ℕ → Reading → List Asked → List Asked
answers_by s (Ok l) run = answers (instance_of s l) none run
answers_by s (Err why) run = []

abbrev pub run : List Asked
run =
    asked (read 1 0) 0 0 ∷
    asked (put 0) 0 0 ∷
    -- it is in, and s0 is full as well: 18 comes before 20
    asked (put 0) 18 0 ∷
    -- s0 is full
    asked (put 2) 20 0 ∷
    -- c0 has a place left, since row 0 is earned
    asked (put 1) 0 0 ∷
    -- there is no such row, and row 2 is not in
    asked (put 3) 9 0 ∷
    asked (taken 2) 19 0 ∷
    asked (taken 3) 9 0 ∷
    asked (read 0 0) 0 1 ∷
    asked (read 0 1) 0 0 ∷
    asked (read 1 0) 0 1 ∷
    -- there is no such group, and no such side
    asked (read 1 2) 9 0 ∷
    asked (read 2 0) 9 0 ∷
    asked (taken 0) 0 0 ∷
    asked (put 2) 0 0 ∷
    asked (read 0 1) 0 1 ∷
    asked (read 1 0) 0 1 ∷ []
