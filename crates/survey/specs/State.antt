-- What a survey holds, read off the struct.
use Rattle.std.specs.Prelude.{ℕ, zero, suc, Bool, true, false, List, [], ◌∷◌}
use Rattle.plane.specs.declared.point.Point.{Point}
use Rattle.plane.specs.Plane.{vector}
use Rattle.calls.specs.declared.Corner.{Corner}
use Rattle.survey.specs.declared.survey.Survey.{Survey}
use Rattle.survey.specs.Rules.{Found, State}

-- the direction that found a corner, as a vector
abbrev pub found_by : Corner → Point
found_by c = vector c.asked

abbrev pub mark : Bool → Corner → Found
mark b c = record { corner = c.at; asked = found_by c; settled = b }

-- the corners, the edges from the first n settled
abbrev pub marked : ℕ → List Corner → List Found
marked n [] = []
marked zero (c ∷ cs) = mark false c ∷ marked zero cs
marked (suc n) (c ∷ cs) = mark true c ∷ marked n cs

abbrev pub state : {A : Type 0} → Survey A → State
state s = record { found = marked s.settled s.corners.items; probes = s.probes }
