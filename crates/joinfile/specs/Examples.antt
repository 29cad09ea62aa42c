-- Two small files, and their joined file byte by byte.
--   bread                  a file with one card group and one shop group, both with limit 1, and one earned claim
--   cakes                  a file with one card group, a shop group with limit 2 and one in it with limit 1, and two ordinary claims, the first of
--                          which names the inner group
--   files, layouts         file 0 and file 1, and how each is laid out
--   joined_bytes oven       their joined file, for an oven limit below 256
--   joined_of oven          the same as the definitions have it
--   best_under oven         the best choice of its rows: the claim of file 0, and then those of file 1
-- `files-read`, `joined_is` and `joined-best` in proofs/Examples.antt are the proofs.
use Rattle.std.specs.Prelude.{List, [], ◌∷◌, ◌++◌, ℕ, zero, suc}
use Rattle.theory.specs.Search.{best_choice}
use Rattle.claimfile.specs.File.{first_terms}
use Rattle.claimfile.specs.Day.{network_of, limit_of, kind_of}
use Rattle.claimfile.specs.declared.Layout.{Layout}
use Rattle.refusal.specs.Examples.{week}
use Rattle.claimwriter.specs.Written.{layout_for}
use Rattle.joinfile.specs.Files.{joined_file, joined_layout, contents_of}

abbrev pub bread : List ℕ
bread = 1 ∷ 0 ∷ 255 ∷ 255 ∷ week 1 ++ 1 ∷ 0 ∷ 255 ∷ 255 ∷ week 1 ++ 1 ∷ 0 ∷ 0 ∷ 0 ∷ 0 ∷ 0 ∷ 1 ∷ []

abbrev pub cakes : List ℕ
cakes =
    1 ∷ 0 ∷ 255 ∷ 255 ∷ week 2 ++
    2 ∷ 0 ∷ 255 ∷ 255 ∷ week 2 ++ 0 ∷ 0 ∷ week 1 ++
    2 ∷ 0 ∷ 0 ∷ 0 ∷ 1 ∷ 0 ∷ 0 ∷ 0 ∷ 0 ∷ 0 ∷ 0 ∷ 0 ∷ []

abbrev pub files : ℕ → List ℕ
files zero = bread
files (suc k) = cakes

abbrev pub layouts : ℕ → Layout
layouts zero = layout_for 1 1 1
layouts (suc k) = layout_for 1 2 2

abbrev pub joined_of : ℕ → List ℕ
joined_of oven = joined_file 2 (contents_of files layouts) oven

abbrev pub joined_bytes : ℕ → List ℕ
joined_bytes oven =
    -- the card groups: both at the top
    2 ∷ 0 ∷ 255 ∷ 255 ∷ week 1 ++ 255 ∷ 255 ∷ week 2 ++
    -- the oven at the top, and the shop groups at the top of each file in it; the inner group in the group before it
    4 ∷ 0 ∷ 255 ∷ 255 ∷ week oven ++ 0 ∷ 0 ∷ week 1 ++ 0 ∷ 0 ∷ week 2 ++ 2 ∷ 0 ∷ week 1 ++
    -- the claims: card group 0 with shop group 1, then card group 1 with shop groups 3 and 2
    3 ∷ 0 ∷ 0 ∷ 0 ∷ 1 ∷ 0 ∷ 1 ∷ 1 ∷ 0 ∷ 3 ∷ 0 ∷ 0 ∷ 1 ∷ 0 ∷ 2 ∷ 0 ∷ 0 ∷ []

abbrev pub best_under : ℕ → List ℕ
best_under oven =
    let s = joined_bytes oven in
    let l = joined_layout 2 (contents_of files layouts) oven 0 in
    best_choice (network_of s l) (limit_of s l) first_terms (kind_of s l)
