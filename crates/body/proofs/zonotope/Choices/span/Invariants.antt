-- The reach so far and the generators left give the span; it stays far below 64 bits.
use Rattle.std.proofs.Common.{◌≡◌, ◌+◌, ◌*◌, ◌≤◌, drop}
use Rattle.plane.specs.Plane.{size}
use Rattle.body.specs.Zonotope.{span}
use Rattle.body.proofs.zonotope.Choices.span.Given as goal

abbrev pub invariant-loop-generator : goal.invariant-loop-generator
invariant-loop-generator l =
    (span l.reach (drop l.generator-index l.self.generators.now) ≡ span (size l.self.base) l.self.generators.now) × (l.reach ≤ 4294967296 * (l.generator-index + 1))
