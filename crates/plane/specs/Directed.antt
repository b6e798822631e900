-- Which vectors make a direction, and the refusal of those that make none.
use Rattle.std.specs.Prelude.{◌≡◌, ◌+◌, Bool, false, ◌&&◌, Ok, Err, Result, nat_le, nat_lt, unsigned_abs}
use Rattle.plane.specs.declared.direction.Direction.{Direction}
use Rattle.plane.specs.declared.fault.Cause.TheVariants.{NoDirection}
use Rattle.plane.specs.declared.fault.Fault.{Fault}
use Rattle.plane.specs.declared.point.Point.{Point}
use Rattle.plane.specs.Fault.{fault}
use Rattle.plane.specs.Plane.{vector}

-- some component is not 0, and each is between -2,000,000 and 2,000,000
abbrev pub directed : Point → Bool
directed v = nat_lt 0 (unsigned_abs v.x + unsigned_abs v.y) && (nat_le (unsigned_abs v.x) 2000000 && nat_le (unsigned_abs v.y) 2000000)

abbrev pub no_direction : Fault
no_direction = fault NoDirection 0

-- r is the direction v, or the refusal where v is none
abbrev pub Makes : Point → Result Direction Fault → Type 0
Makes v (Ok d) = vector d ≡ v
Makes v (Err e) = (directed v ≡ false) × (e ≡ no_direction)
