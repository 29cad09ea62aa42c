-- Runs of calls on a tally (document 02, E14: "After any run of calls a group's count is the number of rows put in and not taken out since
-- that count in it, refused calls changing nothing").
--   Call                   a call: a row is put in, a row is taken out, a group's count is read
--   Step t call t'         the call finds the tally t and leaves t', as its contract has it
--   Run t calls t'         the calls, one after the other, find t and leave t'
--   after i X call         the rows that are in after a call, where X were in before: a refused call changes nothing
--   in_after i X calls      the same after a run of calls: the rows put in and not taken out since
use Rattle.std.specs.Prelude.{◌≡◌, List, [], ◌∷◌, ℕ}
use Rattle.theory.specs.Network.{Instance}
use Rattle.answers.specs.declared.TallyCountAnswer.{TallyCountAnswer}
use Rattle.tally.specs.declared.Tally.{Tally}
use Rattle.tally.specs.Tally.{PutIn, TakenOut, CountRead, after_put, after_take}

pub data Call : Type 0 where
  put : ℕ → Call
  taken : ℕ → Call
  read : ℕ → ℕ → Call

abbrev pub Step : Tally → Call → Tally → Type 0
Step t (put c) t' = (n : ℕ) × PutIn t c n t'
Step t (taken c) t' = (n : ℕ) × TakenOut t c n t'
Step t (read side g) t' = (r : TallyCountAnswer) × CountRead t side g r t'

abbrev pub Run : Tally → List Call → Tally → Type 0
Run t [] t' = t' ≡ t
Run t (call ∷ calls) t' = (u : Tally) × Step t call u × Run u calls t'

abbrev pub after : Instance → (ℕ → ℕ) → Call → ℕ → ℕ
after i X (put c) = after_put i X c
after i X (taken c) = after_take i X c
after i X (read side g) = X

abbrev pub in_after : Instance → (ℕ → ℕ) → List Call → ℕ → ℕ
in_after i X [] = X
in_after i X (call ∷ calls) = in_after i (after i X call) calls
