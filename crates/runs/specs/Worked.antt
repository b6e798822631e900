-- Runs worked out by hand: for each body, the corners and the probes of its survey, or its refusal, or one support point.
use Rattle.std.specs.Prelude.{ℕ, Bool, true, false, ◌&&◌, T, List, [], ◌∷◌, pos, negsuc, Ok, Err, Result, ◌==◌}
use Rattle.std.specs.List.{list_all}
use Rattle.plane.specs.declared.fault.Fault.{Fault}
use Rattle.plane.specs.declared.point.Point.{Point}
use Rattle.plane.specs.Fault.{number}
use Rattle.plane.specs.Plane.{point, at, origin, same}
use Rattle.body.specs.Meaning.{Meaning, answer}
use Rattle.body.specs.Ring.{ring_meaning}
use Rattle.body.specs.Set.{set_meaning}
use Rattle.body.specs.Zonotope.{zonotope_meaning}
use Rattle.calls.specs.declared.Ended.{Ended}
use Rattle.calls.specs.declared.Ended.TheVariants as ended
use Rattle.layers.specs.Layers.{moved, halved, quartered, summed, joined}
use Rattle.survey.specs.Rules.{State, corners, until_closed}

pub data RunOf : Type 0 where
  outlines : Meaning → List Point → ℕ → RunOf  -- the body, its corners and the probes
  refuses : Meaning → ℕ → ℕ → ℕ → RunOf  -- the body; cause, place and layer
  answers : Meaning → Point → Point → RunOf  -- the body, a direction, and the support point in it

-- of sets of points
abbrev pub worked : List RunOf
worked =
    -- a rectangle; the middle of its upper side is no corner
    outlines (set_meaning (at 0 0 ∷ at 2 0 ∷ at 2 1 ∷ at 0 1 ∷ at 1 1 ∷ [])) (at 2 1 ∷ at 0 1 ∷ at 0 0 ∷ at 2 0 ∷ []) 8
    -- one point, twice
    ∷ outlines (set_meaning (at 5 5 ∷ at 5 5 ∷ [])) (at 5 5 ∷ []) 2
    -- a segment with its middle
    ∷ outlines (set_meaning (at 0 0 ∷ at 3 1 ∷ at 6 2 ∷ [])) (at 6 2 ∷ at 0 0 ∷ []) 4
    -- the greatest coordinate that is allowed, and the next
    ∷ outlines (set_meaning (point (negsuc 999999) (pos 0) ∷ [])) (point (negsuc 999999) (pos 0) ∷ []) 2
    ∷ refuses (set_meaning (at 7 7 ∷ point (pos 0) (negsuc 1000000) ∷ [])) 11 1 0
    ∷ refuses (set_meaning []) 9 0 0
    ∷ []

-- the widest set on the x axis: one point, as far out as is allowed
abbrev pub widest : Meaning
widest = set_meaning (at 1000000 0 ∷ [])

-- of rings, zonotopes and layers
abbrev pub worked_bodies : List RunOf
worked_bodies =
    -- a unit square: above it, (0, 1) and (1, 1) tie
    answers (zonotope_meaning origin (at 1 0 ∷ at 0 1 ∷ [])) (at 0 1) (at 0 1)
    -- a triangle from a wrong corner, and from the greatest
    ∷ refuses (ring_meaning (at 0 0 ∷ at 2 0 ∷ at 2 2 ∷ [])) 12 2 0
    ∷ outlines (ring_meaning (at 2 2 ∷ at 0 0 ∷ at 2 0 ∷ [])) (at 2 2 ∷ at 0 0 ∷ at 2 0 ∷ []) 6
    -- the widest set, and moved by one
    ∷ outlines widest (at 1000000 0 ∷ []) 2
    ∷ refuses (moved (at 1 0) widest) 11 0 0
    -- a fault two layers down, on the left
    ∷ refuses (summed (halved (set_meaning [])) (set_meaning [])) 9 0 2
    -- a half and a quarter turn of one segment
    ∷ outlines (joined (halved (set_meaning (at 0 0 ∷ at 3 1 ∷ []))) (quartered (set_meaning (at 0 0 ∷ at 3 1 ∷ [])))) (at 0 0 ∷ point (negsuc 0) (pos 3) ∷ point (negsuc 2) (negsuc 0) ∷ []) 6
    ∷ []

abbrev pub same_list : List Point → List Point → Bool
same_list [] [] = true
same_list [] (q ∷ qs) = false
same_list (p ∷ ps) [] = false
same_list (p ∷ ps) (q ∷ qs) = same p q && same_list ps qs

abbrev pub closes_as : List Point → ℕ → State → Ended → Bool
closes_as cs n s ended.Closed = same_list cs (corners s) && n == s.probes
closes_as cs n s ended.Spent = false
closes_as cs n s (ended.Refused f) = false

abbrev pub refused_as : ℕ → ℕ → ℕ → Ended → Bool
refused_as c p l ended.Closed = false
refused_as c p l ended.Spent = false
refused_as c p l (ended.Refused f) = c == number f.cause && (p == f.place && l == f.layer)

abbrev pub answered_as : Point → Result Point Fault → Bool
answered_as p (Ok q) = same p q
answered_as p (Err f) = false

abbrev pub right : RunOf → Bool
right (outlines m cs n) = let r = until_closed m in closes_as cs n r.leaves r.tells.ended
right (refuses m c p l) = refused_as c p l (until_closed m).tells.ended
right (answers m u p) = answered_as p (answer m u)

-- the rules give what was worked out, for sets
abbrev pub AllWorked : Type 0
AllWorked = T (list_all right worked)

-- and for the other bodies
abbrev pub AllBodiesWorked : Type 0
AllBodiesWorked = T (list_all right worked_bodies)
