-- The best so far and the points that are left give the support point.
use Rattle.std.proofs.Common.{◌≡◌, drop}
use Rattle.plane.specs.Plane.{vector}
use Rattle.plane.specs.Support.{farthest, support}
use Rattle.body.proofs.reach.farthest.Given as goal

abbrev pub invariant-loop-point : goal.invariant-loop-point
invariant-loop-point l = farthest (vector l.u) l.best (drop l.point-index l.point-items) ≡ support (vector l.u) l.points
