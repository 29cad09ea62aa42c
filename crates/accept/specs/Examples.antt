-- Closings of days A and B, and what is told of them, in one table. `examples-told` in proofs/Examples.antt is its proof.
--   Example                a file in a form, a choice, a sheet, and the number that is told, 0 where the closing is accepted
--   on_a choice sheet number    of day A, a new file in the week layout, on day 0
--   day_b                   day B, in which a shelf has limit 5 in a shop with limit 2
-- Day A has the marks of c0, c1, s0, s1 and of claims 0, 1, 2; an earned claim weighs 4. Day B has those of three card groups,
-- three shop groups and three claims.
use Rattle.std.specs.Prelude.{List, [], ◌∷◌, ℕ}
use Rattle.claimfile.specs.declared.Form.{Form}
use Rattle.claimfile.specs.File.{new_week, new_old, stored_old}
use Rattle.refusal.specs.Examples.{week_a}

pub record Example : Type 0 where
  pub given : Form
  pub file : List ℕ
  pub choice : List ℕ
  pub sheet : List ℕ
  pub number : ℕ

abbrev pub on_a : List ℕ → List ℕ → ℕ → Example
on_a choice sheet number = record { given = new_week 0; file = week_a; choice = choice; sheet = sheet; number = number }

abbrev pub day_b : List ℕ
day_b =
    3 ∷ 0 ∷ 255 ∷ 255 ∷ 1 ∷ 0 ∷ 255 ∷ 255 ∷ 1 ∷ 0 ∷ 255 ∷ 255 ∷ 1 ∷ 0 ∷
    3 ∷ 0 ∷ 255 ∷ 255 ∷ 2 ∷ 0 ∷ 0 ∷ 0 ∷ 5 ∷ 0 ∷ 0 ∷ 0 ∷ 1 ∷ 0 ∷
    3 ∷ 0 ∷ 0 ∷ 0 ∷ 2 ∷ 0 ∷ 0 ∷ 1 ∷ 0 ∷ 2 ∷ 0 ∷ 1 ∷ 2 ∷ 0 ∷ 1 ∷ 0 ∷ 0 ∷ []

abbrev pub examples : List Example
examples =
    -- document 02's marks, s0 4 and s1 1
    on_a (1 ∷ 1 ∷ 0 ∷ []) (0 ∷ 0 ∷ 4 ∷ 1 ∷ 0 ∷ 0 ∷ 0 ∷ []) 0 ∷
    -- another sheet that is as good; what lies past the needed lengths is not read
    on_a (1 ∷ 1 ∷ 0 ∷ 7 ∷ []) (1 ∷ 0 ∷ 1 ∷ 0 ∷ 3 ∷ 0 ∷ 0 ∷ 9 ∷ []) 0 ∷
    -- 8: a choice of two bytes, and a sheet of six marks
    on_a (1 ∷ 1 ∷ []) (0 ∷ 0 ∷ 4 ∷ 1 ∷ 0 ∷ 0 ∷ 0 ∷ []) 8 ∷
    on_a (2 ∷ 1 ∷ 0 ∷ []) (0 ∷ 0 ∷ 4 ∷ 1 ∷ 0 ∷ 0 ∷ []) 8 ∷
    -- 9: a choice byte over 1
    on_a (2 ∷ 1 ∷ 0 ∷ []) (0 ∷ 0 ∷ 4 ∷ 1 ∷ 0 ∷ 0 ∷ 0 ∷ []) 9 ∷
    -- 13: rows 0 and 2 are both in s0, whatever the marks
    on_a (1 ∷ 0 ∷ 1 ∷ []) (0 ∷ 0 ∷ 4 ∷ 1 ∷ 0 ∷ 0 ∷ 0 ∷ []) 13 ∷
    on_a (1 ∷ 0 ∷ 1 ∷ []) (0 ∷ 0 ∷ 0 ∷ 0 ∷ 0 ∷ 0 ∷ 0 ∷ []) 13 ∷
    -- 14: claim 1 has no mark, and the totals differ too
    on_a (1 ∷ 1 ∷ 0 ∷ []) (0 ∷ 0 ∷ 4 ∷ 0 ∷ 0 ∷ 0 ∷ 0 ∷ []) 14 ∷
    -- 15: rows 1 and 2 fit, but weigh 2 of 5; and a mark that is too much
    on_a (0 ∷ 1 ∷ 1 ∷ []) (0 ∷ 0 ∷ 4 ∷ 1 ∷ 0 ∷ 0 ∷ 0 ∷ []) 15 ∷
    on_a (1 ∷ 1 ∷ 0 ∷ []) (4294967295 ∷ 0 ∷ 4 ∷ 1 ∷ 0 ∷ 0 ∷ 0 ∷ []) 15 ∷
    -- 12 before 9
    record {
      given = new_week 7;
      file = week_a;
      choice = 2 ∷ 1 ∷ 0 ∷ [];
      sheet = 0 ∷ 0 ∷ 4 ∷ 1 ∷ 0 ∷ 0 ∷ 0 ∷ [];
      number = 12;
    } ∷
    -- day B is a stored file: marks s0 1 and s2 3
    record {
      given = stored_old 3;
      file = day_b;
      choice = 0 ∷ 1 ∷ 1 ∷ [];
      sheet = 0 ∷ 0 ∷ 0 ∷ 1 ∷ 0 ∷ 3 ∷ 0 ∷ 0 ∷ 0 ∷ [];
      number = 0;
    } ∷
    record {
      given = new_old 3;
      file = day_b;
      choice = 0 ∷ 1 ∷ 1 ∷ [];
      sheet = 0 ∷ 0 ∷ 0 ∷ 1 ∷ 0 ∷ 3 ∷ 0 ∷ 0 ∷ 0 ∷ [];
      number = 11;
    } ∷ []
