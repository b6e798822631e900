-- Points and vectors of the plane over the integers: sums, products and the order of points.
use Rattle.std.specs.Prelude.{ℕ, ◌+◌, max, Bool, false, cond, ◌&&◌, ◌||◌, ℤ, pos, negsuc, ◌+ℤ◌, ◌-ℤ◌, ◌*ℤ◌, neg_ℤ, ◌==◌, int_lt, nat_lt, unsigned_abs}
use Rattle.plane.specs.declared.point.Point.{Point}
use Rattle.plane.specs.declared.direction.Direction.{Direction}

abbrev pub point : ℤ → ℤ → Point
point x y = record { x = x; y = y }

-- a point whose coordinates are not negative
abbrev pub at : ℕ → ℕ → Point
at x y = point (pos x) (pos y)

abbrev pub origin : Point
origin = point (pos 0) (pos 0)

-- a direction as a vector
abbrev pub vector : Direction → Point
vector u = point u.x u.y

abbrev pub east : Point
east = point (pos 1) (pos 0)

abbrev pub west : Point
west = point (negsuc 0) (pos 0)

abbrev pub plus : Point → Point → Point
plus p q = point (p.x +ℤ q.x) (p.y +ℤ q.y)

abbrev pub minus : Point → Point → Point
minus p q = point (p.x -ℤ q.x) (p.y -ℤ q.y)

-- a half turn
abbrev pub negate : Point → Point
negate p = point (neg_ℤ p.x) (neg_ℤ p.y)

abbrev pub times : ℤ → Point → Point
times n p = point (n *ℤ p.x) (n *ℤ p.y)

-- p·q
abbrev pub dot : Point → Point → ℤ
dot p q = p.x *ℤ q.x +ℤ p.y *ℤ q.y

abbrev pub cross : Point → Point → ℤ
cross p q = p.x *ℤ q.y -ℤ p.y *ℤ q.x

-- a quarter turn to the left
abbrev pub perp : Point → Point
perp u = point (neg_ℤ u.y) u.x

-- above 0 where the way from a through b to c bends strictly left, 0 where it does not bend
abbrev pub orientation : Point → Point → Point → ℤ
orientation a b c = cross (minus b a) (minus c a)

-- the normal (dy, -dx) of the edge from p to q, with d = q - p
abbrev pub normal : Point → Point → Point
normal p q = point (minus q p).y (neg_ℤ (minus q p).x)

-- the greater of the two absolute coordinates
abbrev pub size : Point → ℕ
size p = max (unsigned_abs p.x) (unsigned_abs p.y)

abbrev pub equal : ℤ → ℤ → Bool
equal (pos a) (pos b) = a == b
equal (pos a) (negsuc b) = false
equal (negsuc a) (pos b) = false
equal (negsuc a) (negsuc b) = a == b

abbrev pub same : Point → Point → Bool
same p q = equal p.x q.x && equal p.y q.y

-- the order of points, by x and then by y: p comes after q
abbrev pub greater : Point → Point → Bool
greater p q = int_lt q.x p.x || (equal q.x p.x && int_lt q.y p.y)

-- of n corners in a round, the number of the one after corner i
abbrev pub next : ℕ → ℕ → ℕ
next n i = cond (nat_lt (i + 1) n) (i + 1) 0
