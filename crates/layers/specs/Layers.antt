-- What a layer means, from the meanings of its parts.
use Rattle.std.specs.Prelude.{ℕ, zero, suc, ◌+◌, min, max, List, [], ◌∷◌, ◌++◌, map, Ok, Err}
use Rattle.plane.specs.declared.fault.Fault.{Fault}
use Rattle.plane.specs.declared.point.Point.{Point}
use Rattle.plane.specs.Plane.{size, plus, negate, perp}
use Rattle.body.specs.Meaning.{Verdict, Meaning, limited}

-- a fault that has come up through one layer more; the number stops at 255
abbrev pub raised : Fault → Fault
raised f = record { cause = f.cause; place = f.place; layer = min (f.layer + 1) 255 }

-- what a layer's own verdict is, by its part's reach; a fault of the part comes up
abbrev pub over : (ℕ → Verdict) → Verdict → Verdict
over own (Ok reach) = own reach
over own (Err f) = Err (raised f)

-- the points shifted by v
abbrev pub moved : Point → Meaning → Meaning
moved v m = record { verdict = over (λ r. limited 0 (r + size v)) m.verdict; points = map (λ p. plus p v) m.points }

-- the points turned by t; the reach stays
abbrev pub turned : (Point → Point) → Meaning → Meaning
turned t m = record { verdict = over (λ r. Ok r) m.verdict; points = map t m.points }

-- p after so many quarter turns to the left
abbrev pub quarter_turns : ℕ → Point → Point
quarter_turns zero p = p
quarter_turns (suc n) p = perp (quarter_turns n p)

-- the vector that so many quarter turns take to u
abbrev pub before_turns : ℕ → Point → Point
before_turns zero u = u
before_turns (suc n) u = before_turns n (negate (perp u))

-- a half turn about the origin
abbrev pub halved : Meaning → Meaning
halved m = turned negate m

-- a quarter turn to the left about the origin
abbrev pub quartered : Meaning → Meaning
quartered m = turned perp m

-- all sums of a point of the first list and one of the second
abbrev pub sums : List Point → List Point → List Point
sums [] qs = []
sums (p ∷ ps) qs = map (λ q. plus p q) qs ++ sums ps qs

-- left is judged before right, and both before the sum
abbrev pub summed : Meaning → Meaning → Meaning
summed m n = record { verdict = over (λ r. over (λ s. limited 0 (r + s)) n.verdict) m.verdict; points = sums m.points n.points }

-- the points of both
abbrev pub joined : Meaning → Meaning → Meaning
joined m n = record { verdict = over (λ r. over (λ s. Ok (max r s)) n.verdict) m.verdict; points = m.points ++ n.points }
