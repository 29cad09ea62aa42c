-- What the exported calls answer under the second terms, for a new file in the week layout and day d: in each, r is an answer in the
-- numbers that C takes.
--   FitsAndRankKindsIs d s sel side r      `AnsweredKinds` says what that answer is and means
--   SettleKindsIs d .. r   `SettlesKinds` says what that answer is and what is left in the lent buffers
use Rattle.std.specs.Prelude.{List, ℕ}
use Rattle.answers.specs.declared.FitsAndRankAnswer.{FitsAndRankAnswer}
use Rattle.answers.specs.declared.SettleKindsAnswer.{SettleKindsAnswer}
use Rattle.limits.specs.Answers.{ranked_numbers, AnsweredKinds}
use Rattle.kinds.specs.Settle.{settled_kinds_numbers, SettlesKinds}
use Rattle.numbers.specs.Numbers.{InNumbers}

abbrev pub FitsAndRankKindsIs : ℕ → List ℕ → List ℕ → ℕ → FitsAndRankAnswer → Type 0
FitsAndRankKindsIs d s sel side r = InNumbers ranked_numbers (AnsweredKinds d s sel side) r

abbrev pub SettleKindsIs :
    ℕ → List ℕ → List ℕ → List ℕ → List ℕ → List ℕ → List ℕ → List ℕ → SettleKindsAnswer → Type 0
SettleKindsIs d s ch sheet t ch' sheet' t' r =
    InNumbers settled_kinds_numbers (SettlesKinds d s ch sheet t ch' sheet' t') r
