-- What a ring of corners in outline order means.
use Rattle.std.specs.Prelude.{ℕ, zero, suc, ◌+◌, ◌-◌, Bool, false, cond, not, ◌&&◌, ◌||◌, List, length, pos, Ok, Err, ◌==◌, int_lt, nat_lt, slice_index_or}
use Rattle.plane.specs.declared.fault.Cause.TheVariants.{UnlawfulStep}
use Rattle.plane.specs.declared.point.Point.{Point}
use Rattle.plane.specs.Fault.{fault}
use Rattle.plane.specs.Plane.{origin, greater, orientation, next}
use Rattle.body.specs.Meaning.{Verdict, Meaning}
use Rattle.body.specs.Set.{points_verdict}

abbrev pub corner : List Point → ℕ → Point
corner ps i = slice_index_or ps i origin

-- of n corners in a round, the number of the one before corner i
abbrev pub previous : ℕ → ℕ → ℕ
previous n i = cond (i == 0) (n - 1) (i - 1)

-- step i leads from corner i to the one after it, and rises where that one is the greater point
abbrev pub rises : List Point → ℕ → Bool
rises ps i = greater (corner ps (next (length ps) i)) (corner ps i)

-- some step before step i rises
abbrev pub rose : List Point → ℕ → Bool
rose ps zero = false
rose ps (suc i) = rose ps i || rises ps i

-- the way turns strictly left at corner i
abbrev pub turns_left : List Point → ℕ → Bool
turns_left ps i = int_lt (pos 0) (orientation (corner ps (previous (length ps) i)) (corner ps i) (corner ps (next (length ps) i)))

-- whether step i is unlawful, from whether it rises (`up`) and whether one before it rose (`risen`): no rise after a rise, no rise at the end, or, with more than two corners, a start where the way does not turn left
abbrev pub unlawful_by : List Point → ℕ → Bool → Bool → Bool
unlawful_by ps i up risen = (not up && (risen || i + 1 == length ps)) || (nat_lt 2 (length ps) && not (turns_left ps i))

-- the step of a single corner is lawful
abbrev pub unlawful : List Point → ℕ → Bool
unlawful ps i = nat_lt 1 (length ps) && unlawful_by ps i (rises ps i) (rose ps i)

-- the first of the m steps from step i on that is unlawful, by its number; the number after them where there is none
abbrev pub first_unlawful_from : List Point → ℕ → ℕ → ℕ
first_unlawful_from ps zero i = i
first_unlawful_from ps (suc m) i = cond (unlawful ps i) i (first_unlawful_from ps m (suc i))

abbrev pub first_unlawful : List Point → ℕ
first_unlawful ps = first_unlawful_from ps (length ps) 0

-- the verdict on the steps of corners that have a verdict as points
abbrev pub steps_verdict : List Point → Verdict → Verdict
steps_verdict ps (Ok reach) = cond (nat_lt (first_unlawful ps) (length ps)) (Err (fault UnlawfulStep (first_unlawful ps))) (Ok reach)
steps_verdict ps (Err f) = Err f

abbrev pub ring_verdict : List Point → Verdict
ring_verdict ps = steps_verdict ps (points_verdict 256 ps)

abbrev pub ring_meaning : List Point → Meaning
ring_meaning ps = record { verdict = ring_verdict ps; points = ps }
