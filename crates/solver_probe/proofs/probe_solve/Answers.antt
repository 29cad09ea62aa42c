-- Each test that fails is a fault of the numbers, and nothing is changed until all have passed. Then the tables hold the network that the
-- numbers are, and what the solver leaves of them is a solution of it.
use mathlib.Core.Path.{refl}
use mathlib.Core.Logic.{inl}
use native.Mathlib.Omega.{arith}
use Rattle.solver_probe.proofs.TableLaws.{lengths-room, lengths-numbered, written-tables, written-solution, turned-away}
use Rattle.solver_probe.proofs.probe_solve.Goals as goal

pub returns-then-marks-n : goal.returns-then-marks-n
returns-then-marks-n c = turned-away (omega arith) (λ T. omega (arith, T.sheets, c.if-marks-n.true))

pub returns-then-toll-gt-HIGHEST : goal.returns-then-toll-gt-HIGHEST
returns-then-toll-gt-HIGHEST c = turned-away (omega arith) (λ T. omega (arith, T.high, c.if-toll-gt-HIGHEST.true))

pub returns-then-not-lengths_are : goal.returns-then-not-lengths_are
returns-then-not-lengths_are c = turned-away (omega arith) (λ T. c.lengths_are.ensures.fails (c.if-not-lengths_are.true) T.lengths)

pub is_network-requires : goal.is_network-requires
is_network-requires c = lengths-numbered (c.lengths_are.ensures.holds (c.if-not-lengths_are.false))

pub returns-then-not-is_network : goal.returns-then-not-is_network
returns-then-not-is_network c = turned-away (omega arith) (λ T. c.is_network.ensures.fails (c.if-not-is_network.true) T.network)

pub write_tables-requires : goal.write_tables-requires
write_tables-requires c =
    let lengths = c.lengths_are.ensures.holds (c.if-not-lengths_are.false) in
    let network = c.is_network.ensures.holds (c.if-not-is_network.false) in
    record {
      room = lengths-room lengths refl;
      groups_len = (lengths.groups, lengths.rows);
      network = (network, omega arith);
    }

pub solve-requires : goal.solve-requires
solve-requires c =
    let lengths = c.lengths_are.ensures.holds (c.if-not-lengths_are.false) in
    let network = c.is_network.ensures.holds (c.if-not-is_network.false) in
    written-tables _ _ _ _ _ c.write_tables.ensures _ _
    (lengths-room lengths c.write_tables.ensures.long) network refl refl (omega arith) (omega arith) refl

pub returns : goal.returns
returns c =
    let lengths = c.lengths_are.ensures.holds (c.if-not-lengths_are.false) in
    let network = c.is_network.ensures.holds (c.if-not-is_network.false) in
    inl
    (record {
      answer = omega arith;
      takes = record { sheets = omega arith; high = omega arith; lengths = lengths; network = network };
      solution = written-solution _ _ _ _ _ c.write_tables.ensures _ _ c.solve.ensures;
    })
