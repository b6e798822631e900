-- What was worked out by hand, against the rules.
use Rattle.std.proofs.Common.{refl}
use Rattle.survey.specs.Rules.{until_closed}
use Rattle.runs.proofs.worked.count_worked.Goals as goal

-- all by computing
pub returns : goal.returns
unfolding until_closed
returns c = record { sets = refl; bodies = refl; right = tt; bodies_right = tt }
