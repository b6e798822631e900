-- The first i slots hold the first i corners, and the others what they held.
use Rattle.std.proofs.Common.{◌≡◌, map, take, drop}
use Rattle.survey.proofs.survey.Survey.write_corners.Given as goal

abbrev pub invariant-loop-i : goal.invariant-loop-i
invariant-loop-i g l =
    (take l.i l.out ≡ map (λ c. c.at) (take l.i l.self.corners.items))
    × (drop l.i l.out ≡ drop l.i l.initial.out)
