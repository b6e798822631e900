-- The two products of a direction, u·p and perp(u)·p, tell points apart.
use Rattle.std.proofs.Common.{◌≡◌, List, [], ◌∷◌, ℤ, pos, ◌+ℤ◌, ◌-ℤ◌, ◌*ℤ◌, ◌<ℤ◌, refl, arith}
use lib.IntN.{ℤ_discrete}
use Rattle.plane.specs.declared.point.Point.{Point}
use Rattle.plane.specs.Plane.{origin, dot, perp}
use Rattle.plane.proofs.Laws.{lin}
use Rattle.plane.proofs.Ring.{ring, reads}
use Rattle.plane.proofs.Order.{eq_by, eq_cancel, square≥0, square>0}
use Rattle.plane.proofs.Points.{point_same}

-- the coordinates of points, as the unknowns of an equation
abbrev pub coordinates : List Point → List ℤ
coordinates [] = []
coordinates (p ∷ ps) = p.x ∷ p.y ∷ coordinates ps

pub square_size>0 : (u : Point) → ¬ (u ≡ origin) → pos 0 <ℤ dot u u
square_size>0 u n = go (ℤ_discrete u.x (pos 0)) (ℤ_discrete u.y (pos 0))
  where
    go : Dec (u.x ≡ pos 0) → Dec (u.y ≡ pos 0) → pos 0 <ℤ dot u u
    go (yes a) (yes b) = absurd (n (point_same a b))
    go (yes a) (no b) = omega (arith, lin, square≥0 u.x, square>0 u.y b)
    go (no a) d = omega (arith, lin, square>0 u.x a, square≥0 u.y)

-- |u|² (p - q) is a combination of the differences of the two products
pub apart : (u p q : Point) → ¬ (u ≡ origin) → dot u q ≡ dot u p → dot (perp u) q ≡ dot (perp u) p → q ≡ p
apart u p q n e f = point_same same_x same_y
  where
    positive : pos 0 <ℤ dot u u
    positive = square_size>0 u n

    same_x : q.x ≡ p.x
    same_x =
        eq_cancel (dot u u) positive (eq_by (u.x *ℤ (dot u p -ℤ dot u q) -ℤ u.y *ℤ (dot (perp u) p -ℤ dot (perp u) q))
        (rw (e, f) (ring (dot u p ∷ dot (perp u) p ∷ coordinates (u ∷ [])) (search reads depth 20) refl))
        (ring (coordinates (u ∷ p ∷ q ∷ [])) (search reads depth 20) refl))

    same_y : q.y ≡ p.y
    same_y =
        eq_cancel (dot u u) positive (eq_by (u.y *ℤ (dot u p -ℤ dot u q) +ℤ u.x *ℤ (dot (perp u) p -ℤ dot (perp u) q))
        (rw (e, f) (ring (dot u p ∷ dot (perp u) p ∷ coordinates (u ∷ [])) (search reads depth 20) refl))
        (ring (coordinates (u ∷ p ∷ q ∷ [])) (search reads depth 20) refl))
