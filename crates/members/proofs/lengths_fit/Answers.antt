-- `lengths_fit` meets its contract: there is no file, there are too many, or the sum decides.
use mathlib.Core.Path.{ap, ◌∙◌}
use Prim.Native.Nat.{ℕ}
use native.Mathlib.Omega.{arith}
use lib.Dec.{eqb}
use Rattle.members.proofs.GatherLaws.{lengths_none, lengths-many, lengths-sum}
use Rattle.members.proofs.lengths_fit.Goals as goal

pub returns-then-n-eq0 : goal.returns-then-n-eq0
returns-then-n-eq0 c =
    let a = c.args in
    lengths_none a.total a.lengths.now (omega arith)

pub returns-then-n-gt-MOST_FILES : goal.returns-then-n-gt-MOST_FILES
returns-then-n-gt-MOST_FILES c =
    let a = c.args in
    lengths-many a.total a.lengths.now (λ e. omega arith) (omega arith)

pub returns : goal.returns
returns c =
    let a = c.args in
    ap (λ (x : ℕ). eqb x a.total) c.sum_of.ensures
    ∙ lengths-sum a.total a.lengths.now (λ e. omega arith) (omega arith)
