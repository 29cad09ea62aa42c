-- Files of several counters, and what is told of them, in two tables.
--   one_claim               a file with one card group, one shop group, both with limit 1, and one earned claim
--   two_claims              a file with one card group, one shop group, both with limit 2, and two ordinary claims
--   Told                   what is told of files: a number with the place of the file at fault, or how many card groups, shop groups and
--                          claims they have
--   faulty number file, fine cards shops rows      such an answer
--   told_of                 that of what is judged
--   Example                a buffer, the list of lengths, and what is told
--   examples               their table
--   SizesExample           the readings of some files, and what is told
--   sized cards shops rows the reading of a file with so many records
--   sizes_examples          their table
-- `examples-told` and `sizes-told` in proofs/Examples.antt are the proofs.
use Rattle.std.specs.Prelude.{List, [], ◌∷◌, ◌++◌, ℕ, Ok, Err, Result}
use Rattle.reader.specs.declared.Refusal.TheVariants.{Kind}
use Rattle.claimwriter.specs.Written.{layout_for}
use Rattle.refusal.specs.declared.Reason.TheVariants.{File}
use Rattle.refusal.specs.Table.{number_of}
use Rattle.refusal.specs.Examples.{week}
use Rattle.members.specs.declared.Fault.TheVariants.{Member, Whole}
use Rattle.reader.specs.Reading.{Reading}
use Rattle.members.specs.declared.Fault.{Fault}
use Rattle.members.specs.declared.Sizes.{Sizes}

abbrev pub one_claim : List ℕ
one_claim = 1 ∷ 0 ∷ 255 ∷ 255 ∷ week 1 ++ 1 ∷ 0 ∷ 255 ∷ 255 ∷ week 1 ++ 1 ∷ 0 ∷ 0 ∷ 0 ∷ 0 ∷ 0 ∷ 1 ∷ []

abbrev pub two_claims : List ℕ
two_claims =
    1 ∷ 0 ∷ 255 ∷ 255 ∷ week 2 ++ 1 ∷ 0 ∷ 255 ∷ 255 ∷ week 2 ++ 2 ∷ 0 ∷ 0 ∷ 0 ∷ 0 ∷ 0 ∷ 0 ∷ 0 ∷ 0 ∷ 0 ∷ 0 ∷ 0 ∷ []

pub record Told : Type 0 where
  pub number : ℕ
  pub file : ℕ
  pub cards : ℕ
  pub shops : ℕ
  pub rows : ℕ

abbrev pub faulty : ℕ → ℕ → Told
faulty number file = record { number = number; file = file; cards = 0; shops = 0; rows = 0 }

abbrev pub fine : ℕ → ℕ → ℕ → Told
fine cards shops rows = record { number = 0; file = 0; cards = cards; shops = shops; rows = rows }

abbrev pub told_of : Result Sizes Fault → Told
told_of (Ok z) = fine z.cards z.shops z.rows
told_of (Err (Member k why)) = faulty (number_of (File why)) k
told_of (Err (Whole why)) = faulty (number_of why) 0

pub record Example : Type 0 where
  pub files : List ℕ
  pub lengths : List ℕ
  pub told : Told

abbrev pub example : List ℕ → List ℕ → Told → Example
example files lengths told = record { files = files; lengths = lengths; told = told }

abbrev pub examples : List Example
examples =
    -- 16: no file; nine of them; lengths that come to one byte more, and to one less
    example [] [] (faulty 16 0) ∷
    example [] (0 ∷ 0 ∷ 0 ∷ 0 ∷ 0 ∷ 0 ∷ 0 ∷ 0 ∷ 0 ∷ []) (faulty 16 0) ∷
    example one_claim (44 ∷ []) (faulty 16 0) ∷
    example one_claim (42 ∷ []) (faulty 16 0) ∷
    -- the sum of 32-bit lengths is a true sum: 2^32 - 1 and 44 are not 43
    example one_claim (4294967295 ∷ 44 ∷ []) (faulty 16 0) ∷
    -- eight are not too many: 1 of the first, which is empty
    example [] (0 ∷ 0 ∷ 0 ∷ 0 ∷ 0 ∷ 0 ∷ 0 ∷ 0 ∷ []) (faulty 1 0) ∷
    -- one file, and two
    example one_claim (43 ∷ []) (fine 1 1 1) ∷
    example (one_claim ++ two_claims) (43 ∷ 48 ∷ []) (fine 2 2 3) ∷
    -- 1 of a second file that is empty
    example one_claim (43 ∷ 0 ∷ []) (faulty 1 1) ∷
    -- 2 of the second; and 1 of the first, where both are at fault
    example (one_claim ++ 1 ∷ 1 ∷ []) (43 ∷ 2 ∷ []) (faulty 2 1) ∷
    example (0 ∷ 1 ∷ 1 ∷ []) (1 ∷ 2 ∷ []) (faulty 1 0) ∷
    -- 7 of the first: a file ends where its length says
    example (one_claim ++ two_claims) (44 ∷ 47 ∷ []) (faulty 7 0) ∷ []

pub record SizesExample : Type 0 where
  pub readings : List Reading
  pub told : Told

abbrev pub sizes_example : List Reading → Told → SizesExample
sizes_example readings told = record { readings = readings; told = told }

abbrev pub sized : ℕ → ℕ → ℕ → Reading
sized cards shops rows = Ok (layout_for cards shops rows)

abbrev pub sizes_examples : List SizesExample
sizes_examples =
    -- as many as a joined file may have: with the oven there are 256 shop groups
    sizes_example (sized 128 127 256 ∷ sized 128 128 256 ∷ []) (fine 256 255 512) ∷
    -- 17: one card group more, one shop group more, one claim more
    sizes_example (sized 128 127 256 ∷ sized 129 128 256 ∷ []) (faulty 17 0) ∷
    sizes_example (sized 128 128 256 ∷ sized 128 128 256 ∷ []) (faulty 17 0) ∷
    sizes_example (sized 128 127 256 ∷ sized 128 128 257 ∷ []) (faulty 17 0) ∷
    -- one file alone, for which the oven is a shop group too many
    sizes_example (sized 1 256 1 ∷ []) (faulty 17 0) ∷
    -- 6 of the third file, though the first two are too large together
    sizes_example (sized 256 256 512 ∷ sized 256 256 512 ∷ Err Kind ∷ []) (faulty 6 2) ∷ []
