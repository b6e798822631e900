-- All points before place i are within the limit.
use Rattle.std.proofs.Common.{◌≡◌, ◌+◌, drop}
use Rattle.body.specs.Set.{first_beyond}
use Rattle.body.proofs.reach.first_beyond.Given as goal

abbrev pub invariant-loop-i : goal.invariant-loop-i
invariant-loop-i l = l.i + first_beyond (drop l.i l.points) ≡ first_beyond l.points
