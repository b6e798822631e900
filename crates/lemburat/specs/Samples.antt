-- The program's second sample: a loaded trolley on its way from one place to the next, and its outline worked out by hand.
use Rattle.std.specs.Prelude.{List, [], ◌∷◌, pos, negsuc}
use Rattle.plane.specs.declared.point.Point.{Point}
use Rattle.plane.specs.Plane.{point, at, origin}
use Rattle.body.specs.Meaning.{Meaning}
use Rattle.body.specs.Ring.{ring_meaning}
use Rattle.body.specs.Zonotope.{zonotope_meaning}
use Rattle.layers.specs.Layers.{moved, summed, joined}

-- a trolley of 1200 by 800, with a load that reaches out by 100, at a place
abbrev pub trolley : Point → Meaning
trolley place =
    moved place
    (summed (zonotope_meaning origin (at 1200 0 ∷ at 0 800 ∷ []))
    (ring_meaning (at 100 0 ∷ at 0 100 ∷ point (negsuc 99) (pos 0) ∷ point (pos 0) (negsuc 99) ∷ [])))

abbrev pub path : Meaning
path = joined (trolley (at 2000 500)) (trolley (at 3500 1500))

abbrev pub path_corners : List Point
path_corners = at 4800 2300 ∷ at 4700 2400 ∷ at 3500 2400 ∷ at 2000 1400 ∷ at 1900 1300 ∷ at 1900 500 ∷ at 2000 400 ∷ at 3200 400 ∷ at 4700 1400 ∷ at 4800 1500 ∷ []
