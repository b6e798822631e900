-- The generators left and the reach so far give the verdict.
use Rattle.std.proofs.Common.{◌≡◌, ℕ, ◌+◌, ◌≤◌, List, drop}
use Rattle.plane.specs.declared.point.Point.{Point}
use Rattle.plane.specs.Plane.{size}
use Rattle.body.specs.Meaning.{Verdict, limited}
use Rattle.body.specs.Zonotope.{overrun, span}
use Rattle.body.proofs.zonotope.Choices.running_reach.Given as goal

-- the verdict of the generators that are left, after `added` of them and a reach of r
abbrev left : ℕ → ℕ → List Point → Verdict
left added r gs = limited (added + overrun r gs) (span r gs)

abbrev pub invariant-loop-added : goal.invariant-loop-added
invariant-loop-added l =
    (left l.added l.reach (drop l.added l.self.generators.now) ≡ left 0 (size l.self.base) l.self.generators.now) × (l.reach ≤ 1000000)
