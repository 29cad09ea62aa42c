use native.Mathlib.Omega.{arith}
use Rattle.renumber.proofs.WalkLaws.{count_none, count-top, count-up}
use Rattle.renumber.proofs.+unnumbered.Goals as goal

pub returns-then-cell-lt-MAX_GROUPS : goal.returns-then-cell-lt-MAX_GROUPS
returns-then-cell-lt-MAX_GROUPS t c =
    let a = c.args in
    count_none a.cells.now a.g a.n (omega (arith, c.from-cell.ensures))

pub returns-then-g-up : goal.returns-then-g-up
returns-then-g-up t c =
    let a = c.args in
    count-top a.cells.now a.g a.n (omega (arith, c.from-cell.ensures))

pub returns : goal.returns
returns t c =
    let a = c.args in
    count-up a.cells.now a.g a.n _ c.unnumbered.result (omega (arith, c.from-cell.ensures)) (omega arith)
    c.unnumbered.ensures
