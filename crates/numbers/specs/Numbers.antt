-- What the calls answer in the numbers that C takes.
--   InNumbers n P r        r is an answer in the numbers that n gives for it, and P says what that answer is and means
-- The numbers for each answer are defined where the answer is: `ranked_numbers` in `limits`, `spare_numbers` in `spare`, `settled_numbers` in
-- `closing`, `settled_kinds_numbers` in `kinds`, `joined_numbers` in `joined`, `written_numbers` in `refusal`.
use Rattle.std.specs.Prelude.{◌≡◌}

pub record InNumbers {A R : Type 0} (n : A → R) (P : A → Type 0) (r : R) : Type 0 where
  pub answer : A
  pub is : r ≡ n answer
  pub holds : P answer
