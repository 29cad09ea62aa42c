-- `climb` meets its contract: with g as the measure, each call puts g behind the groups that the list holds, and those from its parent
-- up, which is smaller, behind it.
use Rattle.spare.proofs.+climb.Given as goal

abbrev pub decreases-climb : goal.decreases-climb
decreases-climb l = l.g
