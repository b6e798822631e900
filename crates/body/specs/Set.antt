-- What a set of points means.
use Rattle.std.specs.Prelude.{ℕ, suc, max, cond, List, [], ◌∷◌, length, Ok, Err, ◌==◌, nat_lt}
use Rattle.plane.specs.declared.fault.Cause.TheVariants.{NoPoints, TooManyPoints, BeyondReach}
use Rattle.plane.specs.declared.point.Point.{Point}
use Rattle.plane.specs.Fault.{fault}
use Rattle.plane.specs.Plane.{size}
use Rattle.body.specs.Meaning.{Verdict, Meaning}

-- the largest size of a point
abbrev pub reach : List Point → ℕ
reach [] = 0
reach (p ∷ ps) = max (size p) (reach ps)

-- the number of the first point with a coordinate beyond 1,000,000; the length where there is none
abbrev pub first_beyond : List Point → ℕ
first_beyond [] = 0
first_beyond (p ∷ ps) = cond (nat_lt 1000000 (size p)) 0 (suc (first_beyond ps))

abbrev pub reach_verdict : List Point → Verdict
reach_verdict ps = cond (nat_lt 1000000 (reach ps)) (Err (fault BeyondReach (first_beyond ps))) (Ok (reach ps))

-- the verdict of a list that may have `most` points; what is tested first is told first
abbrev pub points_verdict : ℕ → List Point → Verdict
points_verdict most ps = cond (length ps == 0) (Err (fault NoPoints 0)) (cond (nat_lt most (length ps)) (Err (fault TooManyPoints most)) (reach_verdict ps))

abbrev pub set_verdict : List Point → Verdict
set_verdict ps = points_verdict 1024 ps

abbrev pub set_meaning : List Point → Meaning
set_meaning ps = record { verdict = set_verdict ps; points = ps }
