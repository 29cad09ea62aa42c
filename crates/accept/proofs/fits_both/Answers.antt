-- What is found on each side is the test of that side, and both are asked.
use Rattle.claimfile.specs.Day.{instance_of}
use Rattle.accept.proofs.VerdictLaws.{both_found}
use Rattle.accept.proofs.fits_both.Goals as goal

pub returns : goal.returns
returns c =
    let a = c.args in
    both_found (instance_of a.file.now a.layout) a.choice.now c.rank_on-card.result c.rank_on-shop.result
    c.rank_on-card.ensures.is c.rank_on-shop.ensures.is
