-- The two components that are handed in are those of the normal.
use Rattle.std.proofs.Common.{◌≡◌, pos, ◌-ℤ◌, neg_ℤ, subst, arith, w32, w64, SFits, to_z, of_z, rules}
use Rattle.std.proofs.lemmas.Int.{ints}
use Rattle.plane.specs.declared.point.Point.{Point}
use Rattle.plane.specs.Directed.{Makes}
use Rattle.plane.proofs.Points.{point_same}
use Rattle.plane.proofs.products.normal.Goals as goal

pub returns : goal.returns
returns c =
    let px : SFits w32 c.args.p.x = search rules in
    let py : SFits w32 c.args.p.y = search rules in
    let qx : SFits w32 c.args.q.x = search rules in
    let qy : SFits w32 c.args.q.y = search rules in
    let across : to_z w64 (of_z w64 c.difference.result) ≡ c.args.q.y -ℤ c.args.p.y = omega (arith, ints) in
    let back : to_z w64 (of_z w64 (pos 0 -ℤ to_z w64 (of_z w64 c.difference-2.result))) ≡ neg_ℤ (c.args.q.x -ℤ c.args.p.x) = omega (arith, ints) in
    subst (λ (v : Point). Makes v c.new.result) (point_same across back) c.new.ensures
