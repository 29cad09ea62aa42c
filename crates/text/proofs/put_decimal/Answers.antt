-- `put_decimal` meets its contract: the digits stand at the right of a field of no width.
use Rattle.text.specs.Text.{decimal}
use Rattle.text.proofs.TextLaws.{right-none}
use Rattle.text.proofs.put_decimal.Goals as goal

pub put_right-requires : goal.put_right-requires
put_right-requires c = rw (right-none (decimal c.args.n)) c.requires

pub returns : goal.returns
returns c =
    let a = c.args in
    rw (right-none (decimal a.n)) at c.put_right.ensures
