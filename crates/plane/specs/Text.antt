-- The printed text of points and faults, byte by byte.
use Rattle.std.specs.Prelude.{ℕ, List, ◌∷◌, ◌++◌, codes}
use Rattle.std.specs.Fmt.{decimal, signed_decimal}
use Rattle.plane.specs.declared.fault.Fault.{Fault}
use Rattle.plane.specs.declared.point.Point.{Point}
use Rattle.plane.specs.Fault.{number}

abbrev pub blank : ℕ
blank = 32

-- both coordinates
abbrev pub point_text : Point → List ℕ
point_text p = signed_decimal p.x ++ blank ∷ signed_decimal p.y

-- the cause by its number, the place and the layer
abbrev pub fault_text : Fault → List ℕ
fault_text f = codes "refused " ++ decimal (number f.cause) ++ blank ∷ decimal f.place ++ blank ∷ decimal f.layer
