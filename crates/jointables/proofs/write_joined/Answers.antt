-- The oven first, then the files under it; with all files the tables hold the joined day.
use mathlib.Core.Path.{◌∙◌}
use native.Mathlib.Omega.{arith}
use Rattle.members.specs.Members.{member_of, layouts_of}
use Rattle.jointables.proofs.FilledLaws.{filled-tabled}
use Rattle.jointables.proofs.FilesLaws.{given-keeps, oven-filled}
use Rattle.jointables.proofs.write_joined.Goals as goal

pub write_oven-requires : goal.write_oven-requires
write_oven-requires c =
    let G = c.requires in
    (G.room, omega (arith, G.shape.cards, G.shape.groups))

pub write_files-requires : goal.write_files-requires
write_files-requires c =
    let a = c.args in
    given-keeps a.day a.files.now a.lengths.now a.sh _ _ c.write_oven.ensures.long c.requires

pub returns : goal.returns
returns c =
    let a = c.args in
    let W = c.write_files.ensures in
    record {
      long = W.long ∙ c.write_oven.ensures.long;
      tabled =
          filled-tabled _ (member_of a.files.now a.lengths.now) (layouts_of a.day a.files.now a.lengths.now) a.oven
          a.day c.requires.read.all a.sh c.requires.shape _
          (W.filled a.oven
          (oven-filled a.day a.files.now a.lengths.now a.sh a.scratch.now c.requires a.oven _
          c.write_oven.ensures));
    }
