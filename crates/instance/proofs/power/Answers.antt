-- `power` meets its contract: no power is greater than that of the most rows and the last kind (`power-most`).
use Rattle.std.proofs.Common.{arith}
use Rattle.instance.proofs.RowLaws.{power-most}
use Rattle.instance.proofs.power.Goals as goal

pub pow-requires : goal.pow-requires
pow-requires c = rw c.from.ensures (omega (arith, power-most c.args.rows c.args.kind c.requires.0 c.requires.1))

pub returns : goal.returns
returns c =
    let is = rw c.from.ensures at c.pow.ensures in
    let most = power-most c.args.rows c.args.kind c.requires.0 c.requires.1 in
    (omega (arith, is, most), omega (arith, is, most))
