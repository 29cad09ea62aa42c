-- `rank_on` meets its contract: from counts that are 0, what `rise_on` finds is what the instance says.
use native.Mathlib.Omega.{arith}
use Rattle.sides.proofs.CountLaws.{zeros}
use Rattle.sides.proofs.FoundLaws.{finds}
use Rattle.sides.proofs.rank_on.Goals as goal

pub rise_on-requires : goal.rise_on-requires
rise_on-requires c =
    record {
      ready = c.requires;
      zero = zeros 257 (omega arith);
    }

pub returns : goal.returns
returns c =
    let a = c.args in
    finds a.file.now a.selection.now a.layout c.requires a.side _ c.rise_on.result
    c.rise_on.ensures
