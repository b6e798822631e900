-- A difference of two small numbers is exact.
use Rattle.std.proofs.Common.{arith}
use Rattle.std.proofs.lemmas.Int.{ints}
use Rattle.plane.proofs.Points.{point_same}
use Rattle.body.proofs.near.Near.minus.Goals as goal

pub returns : goal.returns
returns c = point_same (omega (arith, ints)) (omega (arith, ints))
