use native.Mathlib.Omega.{arith}
use Rattle.theory.proofs.SumLaws.{sum-next}
use Rattle.members.specs.Members.{length_of}
use Rattle.counters.proofs.PartLaws.{sum-none}
use Rattle.members.proofs.sum_of.Goals as goal

pub loop-k-init : goal.loop-k-init
loop-k-init c = (sum-none (length_of c.args.lengths.now), omega arith)

pub loop-k-preserved : goal.loop-k-preserved
loop-k-preserved c =
    let upto = c.loop-k in
    let a = c.args in (
      omega (arith, upto.invariant.0, c.length_at-total.ensures.0, sum-next upto.k (length_of a.lengths.now)),
      omega (arith, upto.invariant.1, c.length_at-total.ensures.1),
    )
