-- The support point of a list in a direction: what it is, and how it is worked out.
use Rattle.std.specs.Prelude.{◌≡◌, Bool, cond, not, ◌&&◌, ◌||◌, ◌⊎◌, List, [], ◌∷◌, ◌≤ℤ◌, ◌<ℤ◌, int_lt}
use Rattle.std.specs.List.{ContainsAt, AllByRecursion}
use Rattle.plane.specs.declared.point.Point.{Point}
use Rattle.plane.specs.Plane.{origin, dot, perp}

-- q does not lie beyond p: u·q is smaller, or ties and perp(u)·q is not larger
abbrev pub NotBeyond : Point → Point → Point → Type 0
NotBeyond u p q = (dot u q <ℤ dot u p) ⊎ ((dot u q ≡ dot u p) × (dot (perp u) q ≤ℤ dot (perp u) p))

-- p is listed, and nothing listed lies beyond it
pub record Supports (u : Point) (ps : List Point) (p : Point) : Type 0 where
  pub listed : ContainsAt ps p
  pub greatest : AllByRecursion (NotBeyond u p) ps

-- whether q lies beyond p: u·q is larger, or is no smaller and perp(u)·q is larger
abbrev pub beyond : Point → Point → Point → Bool
beyond u p q = int_lt (dot u p) (dot u q) || (not (int_lt (dot u q) (dot u p)) && int_lt (dot (perp u) p) (dot (perp u) q))

-- the farthest of p and the points of the list
abbrev pub farthest : Point → Point → List Point → Point
farthest u p [] = p
farthest u p (q ∷ qs) = farthest u (cond (beyond u p q) q p) qs

-- the support point, worked out; the origin where there are no points
abbrev pub support : Point → List Point → Point
support u [] = origin
support u (p ∷ ps) = farthest u p ps
