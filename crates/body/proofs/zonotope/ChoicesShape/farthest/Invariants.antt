-- The best so far and the generators left give the farthest choice, and stay within the limit.
use Rattle.std.proofs.Common.{◌≡◌, ◌≤◌, drop}
use Rattle.plane.specs.Plane.{size, vector}
use Rattle.body.specs.Zonotope.{span}
use Rattle.body.proofs.Spans.{picked}
use Rattle.body.proofs.zonotope.ChoicesShape.farthest.Given as goal

abbrev pub invariant-loop-generator : goal.invariant-loop-generator
invariant-loop-generator l =
    (picked (vector l.u) l.best (drop l.generator-index l.self.generators.now) ≡ picked (vector l.u) l.self.base l.self.generators.now) × (span (size l.best) (drop l.generator-index l.self.generators.now) ≤ 1000000)
