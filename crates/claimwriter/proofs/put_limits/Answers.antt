-- Each limit is put right behind the ones before it.
use mathlib.Core.Path.{◌≡◌, refl}
use native.Mathlib.Omega.{arith}
use Rattle.claimfile.specs.File.{days}
use Rattle.claimwriter.proofs.PutLaws.{put-none, put-more}
use Rattle.claimwriter.proofs.put_limits.Invariants.{limits_of}
use Rattle.claimwriter.proofs.put_limits.Goals as goal

pub loop-k-init : goal.loop-k-init
loop-k-init c = put-none _ _ _

pub loop-k-preserved : goal.loop-k-preserved
loop-k-preserved c =
    put-more 2 (limits_of c.args.limits.now) (λ i. refl) _ _ _ c.args.at c.loop-k.k c.loop-k.invariant
    (rw c.from.ensures at c.put_u16.ensures)

pub returns : goal.returns
returns c =
    let done : c.loop-k.k ≡ days = omega arith in
    rw done at c.loop-k.invariant
