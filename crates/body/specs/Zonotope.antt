-- What a zonotope means: all sums of a base point and some of its generators.
use Rattle.std.specs.Prelude.{ℕ, suc, ◌+◌, cond, List, [], ◌∷◌, ◌++◌, length, Err, nat_lt}
use Rattle.plane.specs.declared.fault.Cause.TheVariants.{TooManyPoints}
use Rattle.plane.specs.declared.point.Point.{Point}
use Rattle.plane.specs.Fault.{fault}
use Rattle.plane.specs.Plane.{size, plus}
use Rattle.body.specs.Meaning.{Verdict, Meaning, limited}

-- the points without the first generator, and then those with it
abbrev pub choices : Point → List Point → List Point
choices b [] = b ∷ []
choices b (g ∷ gs) = choices b gs ++ choices (plus b g) gs

-- the reach r of what is there already, plus the size of each generator
abbrev pub span : ℕ → List Point → ℕ
span r [] = r
span r (g ∷ gs) = span (r + size g) gs

-- after how many generators the running reach is above 1,000,000 for the first time; their number where it never is
abbrev pub overrun : ℕ → List Point → ℕ
overrun r [] = 0
overrun r (g ∷ gs) = cond (nat_lt 1000000 r) 0 (suc (overrun (r + size g) gs))

abbrev pub zonotope_verdict : Point → List Point → Verdict
zonotope_verdict b gs = cond (nat_lt 64 (length gs)) (Err (fault TooManyPoints 64)) (limited (overrun (size b) gs) (span (size b) gs))

abbrev pub zonotope_meaning : Point → List Point → Meaning
zonotope_meaning b gs = record { verdict = zonotope_verdict b gs; points = choices b gs }
