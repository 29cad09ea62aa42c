use mathlib.Core.Path.{◌≡◌, refl}
use Prim.Native.Nat.{◌<◌}
use native.Mathlib.Omega.{arith}
use Rattle.meet.proofs.SearchLaws.{tested, going-hit, going-first, going-most, going-room, going-out, going-in}
use Rattle.meet.proofs.SearchLaws.{going-next-out, going-next-in, going_end}
use Rattle.meet.proofs.spread_both.Goals as goal
use Rattle.meet.proofs.spread_both.Goals.{In-loop-h}
use Rattle.meet.proofs.spread_both.Given as given

-- what the loop's test says
abbrev told :
    (g : given.Over) (c : In-loop-h g) →
    (c.loop-h.h < c.loop-h.n) × ((c.loop-h.k < c.loop-h.m) × (c.loop-h.hit ≡ 0))
told g c = let L = c.loop-h in tested L.h L.n L.k L.m L.hit c.loop-h-test.true

pub loop-h-init : goal.loop-h-init
loop-h-init g c = λ B. going-first B.asked B.held

pub queue-u-requires : goal.queue-u-requires
queue-u-requires g c =
    let B = c.requires in
    let G = c.loop-h.invariant B in
    record {
      room = going-room B.asked G;
      i_bound = omega (arith, told g (goal.at.queue-u-requires g c).In-loop-h, going-most B.asked G);
    }

pub scan_out-seen-requires : goal.scan_out-seen-requires
scan_out-seen-requires g c =
    let B = c.requires in
    going-out B.asked (c.loop-h.invariant B) (told g (goal.at.scan_out-seen-requires g c).In-loop-h).0 c.queue-u.ensures

pub overflow_add-h : goal.overflow_add-h
overflow_add-h g c =
    let B = c.requires in
    omega (
      arith,
      told g (goal.at.overflow_add-h g c).In-loop-h,
      going-most B.asked (c.loop-h.invariant B),
      B.asked.ready.buffers.room.few.groups,
    )

pub loop-h-smaller-then-n-m : goal.loop-h-smaller-then-n-m
loop-h-smaller-then-n-m g c =
    let B = c.requires in
    let G = c.loop-h.invariant B in
    omega (arith, told g (goal.at.loop-h-smaller-then-n-m g c).In-loop-h, going-most B.asked G, G.in_high)

pub loop-h-preserved-then-n-m : goal.loop-h-preserved-then-n-m
loop-h-preserved-then-n-m g c = λ B.
    let test = told g (goal.at.loop-h-preserved-then-n-m g c).In-loop-h in
    going-next-out B.asked (going-hit test.1.1 (c.loop-h.invariant B)) test.0 c.queue-u.ensures
    c.scan_out-seen.ensures

pub overflow_sub-g : goal.overflow_sub-g
overflow_sub-g g c =
    let B = c.requires in
    omega (arith, told g (goal.at.overflow_sub-g g c).In-loop-h, going-most B.asked (c.loop-h.invariant B))

pub queue-u-requires-else-n-m-clause-room : goal.queue-u-requires-else-n-m-clause-room
queue-u-requires-else-n-m-clause-room g c =
    let B = c.requires in
    going-room B.asked (c.loop-h.invariant B)

pub scan_in-seen-requires : goal.scan_in-seen-requires
scan_in-seen-requires g c =
    let B = c.requires in
    going-in B.asked (c.loop-h.invariant B) (told g (goal.at.scan_in-seen-requires g c).In-loop-h).1.0 c.queue-u-else-n-m.ensures

pub overflow_add-k : goal.overflow_add-k
overflow_add-k g c =
    let B = c.requires in
    omega (
      arith,
      told g (goal.at.overflow_add-k g c).In-loop-h,
      going-most B.asked (c.loop-h.invariant B),
      B.asked.ready.buffers.room.few.groups,
    )

pub loop-h-smaller : goal.loop-h-smaller
loop-h-smaller g c =
    let B = c.requires in
    let G = c.loop-h.invariant B in
    omega (arith, told g (goal.at.loop-h-smaller g c).In-loop-h, going-most B.asked G, G.out_high)

pub loop-h-preserved : goal.loop-h-preserved
loop-h-preserved g c = λ B.
    let test = told g (goal.at.loop-h-preserved g c).In-loop-h in
    going-next-in B.asked (going-hit test.1.1 (c.loop-h.invariant B)) test.1.0 c.queue-u-else-n-m.ensures
    c.scan_in-seen.ensures

pub returns : goal.returns
returns g c = λ B. going_end B.asked (c.loop-h.invariant B) c.loop-h-test.false _ refl
