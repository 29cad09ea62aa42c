-- The pred of v is an open arc that leads to v. It is an arc down, a row or an arc up, by its number: for each kind what is open says that the
-- places or the row can change (`good-down`, `good-row`, `good-up`), and the change turns the arc (`turned_down`, `turned-row`,
-- `turned_up`).
use mathlib.Core.Path.{ap}
use Prim.Native.Nat.{ℕ, ◌-◌}
use native.Mathlib.Omega.{arith}
use Rattle.paths.proofs.TurnLaws.{good-down, good-row, good-up, turned_down, turned-row, turned_up}
use Rattle.paths.proofs.flip.turn.Goals as goal

pub shift-requires-clause-places : goal.shift-requires-clause-places
shift-requires-clause-places g c =
    let number = ap (λ (k : ℕ). k - 1) c.pred-e.ensures in
    let low = c.if-e-g.true in
    (good-down c.requires.good number low, c.requires.low _ low)

pub returns-then-e-g : goal.returns-then-e-g
returns-then-e-g g c =
    turned_down c.requires.ready.formed (ap (λ (k : ℕ). k - 1) c.pred-e.ensures) c.if-e-g.true c.parent-up.ensures
    c.shift.ensures

pub turn_row-requires-clause-c_bound : goal.turn_row-requires-clause-c_bound
turn_row-requires-clause-c_bound g c =
    let high = c.if-e-g.false in
    let number = ap (λ (k : ℕ). k - 1) c.pred-e.ensures in
    good-row c.requires.good number high c.if-e-g-2.true

pub returns-then-e-g-2 : goal.returns-then-e-g-2
returns-then-e-g-2 g c =
    let high = c.if-e-g.false in
    turned-row c.requires.ready.formed (ap (λ (k : ℕ). k - 1) c.pred-e.ensures) (omega (arith, high))
    (omega (arith, c.if-e-g-2.true, high)) c.turn_row.ensures

pub shift-requires-2 : goal.shift-requires-2
shift-requires-2 g c =
    let G = good-up c.requires.good (ap (λ (k : ℕ). k - 1) c.pred-e.ensures) c.if-e-g-2.false in
    record {
      room = c.requires.ready.buffers.room;
      v_lt_groups = G.0;
      places = (G.1, c.requires.low _ G.0);
    }

pub returns : goal.returns
returns g c =
    let number = ap (λ (k : ℕ). k - 1) c.pred-e.ensures in
    turned_up c.requires.ready.formed number (omega (arith, c.if-e-g-2.false)) (good-up c.requires.good number c.if-e-g-2.false).0
    c.shift-2.ensures
