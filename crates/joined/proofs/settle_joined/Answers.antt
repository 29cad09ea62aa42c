-- What is judged of the files decides; files that are ready are settled as the joined file is.
use mathlib.Core.Path.{◌≡◌, sym, ap, ◌∙◌}
use Prim.Native.Nat.{ℕ, ◌<◌}
use native.Mathlib.Omega.{arith}
use lib.ListN.{get_or}
use Rattle.std.specs.Prelude.{Result}
use Rattle.closing.specs.declared.Totals.{Totals}
use Rattle.members.specs.declared.Fault.{Fault}
use Rattle.reader.proofs.PassedLaws.{passed-on}
use Rattle.joined.specs.Call.{joint_of, JoinsAs}
use Rattle.joined.proofs.AnswerLaws.{sizes-few, ready-joins, joins-oven, joins-settled, joins-fault}
use Rattle.joined.proofs.settle_joined.Goals as goal
use Rattle.joined.proofs.settle_joined.Goals.{After-judge_files, After-settle_ready}

-- the bytes of the files are bytes
bytes : (c : After-judge_files) (i : ℕ) → get_or c.args.files.now i 0 < 256
bytes c i = omega (arith, c.shared_slice_known-1.given i)

pub layout_of-requires : goal.layout_of-requires
layout_of-requires c =
    let a = c.args in
    sizes-few a.day a.files.now a.lengths.now c.from.result (bytes (goal.at.layout_of-requires c).After-judge_files) (omega (arith, c.from.ensures, c.ranges.oven)) _
    (sym c.judge_files.ensures ∙ c.in_ok-sizes.was)

pub settle_ready-requires : goal.settle_ready-requires
settle_ready-requires c =
    let a = c.args in
    ready-joins a.day a.files.now a.lengths.now _ (bytes (goal.at.settle_ready-requires c).After-judge_files) (omega (arith, c.from.ensures, c.ranges.oven)) _
    (sym c.judge_files.ensures ∙ c.in_ok-sizes.was) _ c.layout_of.ensures

-- the files are turned away
pub returns-in_err-sizes : goal.returns-in_err-sizes
returns-in_err-sizes c =
    let a = c.args in
    joins-fault a.day a.files.now a.lengths.now a.oven (bytes (goal.at.returns-in_err-sizes c).After-judge_files) (omega arith) a.choice.now
    a.sheet.now a.scratch.now _ (sym c.judge_files.ensures ∙ c.in_err-sizes.was) _ (passed-on _ _ c.from_residual.ensures.1)

-- what settling them together answers and leaves is what the call does
settled :
    (c : After-settle_ready) (r : Result Totals Fault) → r ≡ joint_of c.settle_ready.result →
    let a = c.args in
    let b = c.settle_ready.new in
    JoinsAs a.day a.files.now a.lengths.now a.oven a.choice.now a.sheet.now a.scratch.now b.choice b.sheet b.scratch r
settled c r is =
    let a = c.args in
    joins-oven a.day a.files.now a.lengths.now c.from.result a.oven c.from.ensures _ _ _ _ _ _ _
    (joins-settled a.day a.files.now a.lengths.now c.from.result (λ i. omega (arith, c.shared_slice_known-1.given i)) (omega (arith, c.from.ensures, c.ranges.oven)) _
    (sym c.judge_files.ensures ∙ c.in_ok-sizes.was) _ c.layout_of.ensures _ _ _ _ _ _ _ _ is c.settle_ready.ensures)

pub returns-in_err-totals : goal.returns-in_err-totals
returns-in_err-totals c =
    settled (goal.at.returns-in_err-totals c).After-settle_ready _
    (passed-on _ _ c.from_residual-in_err-totals.ensures.1 ∙ ap joint_of (sym c.in_err-totals.was))

pub returns : goal.returns
returns c = settled (goal.at.returns c).After-settle_ready _ (ap joint_of (sym c.in_ok-totals.was))
