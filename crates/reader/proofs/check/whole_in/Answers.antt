-- `whole_in` meets its contract: in each layout it divides by the bytes of a record.
use Rattle.claimfile.proofs.WidthLaws.{whole-week, whole-old}
use Rattle.reader.proofs.check.whole_in.Goals as goal

pub returns-then-week : goal.returns-then-week
returns-then-week c = whole-week c.args.week c.args.bytes c.if-week.true

pub returns : goal.returns
returns c = whole-old c.args.week c.args.bytes c.if-week.false
