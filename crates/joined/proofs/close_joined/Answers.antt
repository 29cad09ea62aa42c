-- The joined day is decided, the scratch is cleared, and the choice, which is of bits since it is the best one, is counted file by file.
use mathlib.Core.Path.{refl}
use native.Mathlib.Omega.{arith}
use Rattle.closing.proofs.SettleLaws.{settlement-bits}
use Rattle.joined.proofs.CountLaws.{join-counts, tally-small, tally-counted}
use Rattle.joined.proofs.close_joined.Goals as goal

pub count_files-tally-requires : goal.count_files-tally-requires
count_files-tally-requires c =
    let a = c.args in
    join-counts a.day a.files.now a.lengths.now a.oven a.layout c.requires.joins _ (omega (arith, c.requires.lent.choices))
    (settlement-bits _ _ _ c.requires.lent.kinds _ _ c.decide_joined.ensures)

pub overflow_mul-result : goal.overflow_mul-result
overflow_mul-result c =
    let a = c.args in
    omega (
      arith,
      tally-small a.day a.files.now a.lengths.now a.oven a.layout c.requires.joins _ _ c.count_files-tally.ensures,
    )

pub overflow_add-result : goal.overflow_add-result
overflow_add-result c =
    let a = c.args in
    omega (
      arith,
      tally-small a.day a.files.now a.lengths.now a.oven a.layout c.requires.joins _ _ c.count_files-tally.ensures,
    )

pub returns : goal.returns
returns c =
    let a = c.args in
    record {
      settlement = c.decide_joined.ensures;
      counted =
          tally-counted a.day a.files.now a.lengths.now a.oven a.layout c.requires.joins _ c.count_files-tally.result
          c.count_files-tally.ensures c.requires.known _ refl refl refl;
      clear = c.clear.ensures.zero;
    }
