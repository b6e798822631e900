-- The walk for the support point.
use Rattle.std.proofs.Common.{◌-◌, length, take, drop, subst}
use Rattle.std.proofs.lemmas.List.{at_drop_all}
use Rattle.plane.specs.Plane.{vector}
use Rattle.plane.specs.Support.{Supports, farthest}
use Rattle.plane.proofs.Supporting.{support_supports}
use Rattle.body.proofs.reach.farthest.Goals as goal

pub returns : goal.returns
returns c =
    let u = vector c.args.u in
    let ps = c.args.points.now in
    let all = at_drop_all (farthest u c.loop-point.best) (take (length ps - 1) (drop 1 ps)) c.loop-point.point-index c.loop-point-test.false in
    subst (Supports u ps) (cc) (support_supports u ps c.requires)
