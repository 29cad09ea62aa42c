-- What the exported calls answer under the first terms, for a file in the form f: in each, r is an answer in the numbers that C takes.
--   FitsAndRankIs f s sel side r   `Answered` says what that answer is and means
--   SparePlacesIs f s sel x r      `Spared` says so
--   SettleIs f .. r        `Settles` says what that answer is and what is left in the lent buffers
--   SettleJoinedIs day b ls oven .. r  `JoinsAs` says so of the files in a buffer b, with the list ls of their lengths
--   WriteIs o out' r       `Leaves` says that this answer and the cells out' of the buffer are the outcome o
--   CodesAre f s codes t codes' t' r   `Writes` says what that answer is and what is left in the lent buffers
--   AcceptIs f s ch sheet r    the answer is a verdict, its number is 0 where the closing is accepted, and `Judges` says what that
--                          verdict is and means
use Rattle.std.specs.Prelude.{List, ℕ}
use Rattle.answers.specs.declared.FitsAndRankAnswer.{FitsAndRankAnswer}
use Rattle.answers.specs.declared.SparePlacesAnswer.{SparePlacesAnswer}
use Rattle.answers.specs.declared.SettleAnswer.{SettleAnswer}
use Rattle.answers.specs.declared.SettleJoinedAnswer.{SettleJoinedAnswer}
use Rattle.answers.specs.declared.WriteAnswer.{WriteAnswer}
use Rattle.claimfile.specs.declared.Form.{Form}
use Rattle.refusal.specs.Writing.{Outcome, written_numbers, Leaves}
use Rattle.limits.specs.Answers.{ranked_numbers, Answered}
use Rattle.spare.specs.Spare.{spare_numbers, Spared}
use Rattle.closing.specs.Settle.{settled_numbers, Settles}
use Rattle.joined.specs.Call.{joined_numbers, JoinsAs}
use Rattle.codes.specs.Write.{Writes}
use Rattle.accept.specs.Accept.{verdict_number, Judges}
use Rattle.numbers.specs.Numbers.{InNumbers}

abbrev pub FitsAndRankIs : Form → List ℕ → List ℕ → ℕ → FitsAndRankAnswer → Type 0
FitsAndRankIs f s sel side r = InNumbers ranked_numbers (Answered f s sel side) r

abbrev pub SparePlacesIs : Form → List ℕ → List ℕ → ℕ → SparePlacesAnswer → Type 0
SparePlacesIs f s sel x r = InNumbers spare_numbers (Spared f s sel x) r

abbrev pub SettleIs :
    Form → List ℕ → List ℕ → List ℕ → List ℕ → List ℕ → List ℕ → List ℕ → SettleAnswer → Type 0
SettleIs f s ch sheet t ch' sheet' t' r = InNumbers settled_numbers (Settles f s ch sheet t ch' sheet' t') r

abbrev pub SettleJoinedIs :
    ℕ → List ℕ → List ℕ → ℕ → List ℕ → List ℕ → List ℕ → List ℕ → List ℕ → List ℕ → SettleJoinedAnswer → Type 0
SettleJoinedIs day b ls oven ch sheet t ch' sheet' t' r =
    InNumbers joined_numbers (JoinsAs day b ls oven ch sheet t ch' sheet' t') r

abbrev pub WriteIs : Outcome → List ℕ → WriteAnswer → Type 0
WriteIs o out' r = InNumbers written_numbers (Leaves o out') r

abbrev pub CodesAre : Form → List ℕ → List ℕ → List ℕ → List ℕ → List ℕ → WriteAnswer → Type 0
CodesAre f s codes t codes' t' r = InNumbers written_numbers (Writes f s codes t codes' t') r

abbrev pub AcceptIs : Form → List ℕ → List ℕ → List ℕ → ℕ → Type 0
AcceptIs f s ch sheet r = InNumbers verdict_number (Judges f s ch sheet) r
