-- The greatest size so far and that of the points left give the reach.
use Rattle.std.proofs.Common.{◌≡◌, max, drop}
use Rattle.body.specs.Set.{reach}
use Rattle.body.proofs.reach.reach_of.Given as goal

abbrev pub invariant-loop-point : goal.invariant-loop-point
invariant-loop-point l = max l.reach (reach (drop l.point-index l.points)) ≡ reach l.points
