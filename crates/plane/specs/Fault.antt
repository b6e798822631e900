-- The numbers of the refusals, and a fault that has come up through no layer.
use Rattle.std.specs.Prelude.{ℕ}
use Rattle.plane.specs.declared.fault.Cause.{Cause}
use Rattle.plane.specs.declared.fault.Cause.TheVariants.{TextTooLong, NoToken, NumberTooLarge, TokenNotAllowed, TooDeep, NoNodeSlot, NoPointSlot, BrokenTable, NoPoints, TooManyPoints, BeyondReach, UnlawfulStep, NoDirection, TooManyCorners, NoSuchCorner, NotClosed, BufferTooShort}
use Rattle.plane.specs.declared.fault.Fault.{Fault}

abbrev pub number : Cause → ℕ
number TextTooLong = 1
number NoToken = 2
number NumberTooLarge = 3
number TokenNotAllowed = 4
number TooDeep = 5
number NoNodeSlot = 6
number NoPointSlot = 7
number BrokenTable = 8
number NoPoints = 9
number TooManyPoints = 10
number BeyondReach = 11
number UnlawfulStep = 12
number NoDirection = 13
number TooManyCorners = 14
number NoSuchCorner = 15
number NotClosed = 16
number BufferTooShort = 17

abbrev pub fault : Cause → ℕ → Fault
fault c p = record { cause = c; place = p; layer = 0 }
