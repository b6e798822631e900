-- The hull of a list of points, by whole weights, and the corners of a list.
use Rattle.std.specs.Prelude.{◌≡◌, ℕ, ◌+◌, ◌<◌, not, List, [], ◌∷◌, length, ℤ, pos, ◌*ℤ◌, filter}
use Rattle.std.proofs.Common.{lit<}
use Rattle.std.specs.List.{ContainsAt}
use Rattle.plane.specs.declared.point.Point.{Point}
use Rattle.plane.specs.Plane.{point, origin, plus, times, same}

-- the fraction point (X/D, Y/D), D above 0
pub record Fraction : Type 0 where
  pub X : ℤ
  pub Y : ℤ
  pub D : ℕ
  pub above : 0 < D

-- two ways of writing one fraction point
pub record SamePoint (f g : Fraction) : Type 0 where
  pub x : f.X *ℤ pos g.D ≡ g.X *ℤ pos f.D
  pub y : f.Y *ℤ pos g.D ≡ g.Y *ℤ pos f.D

-- a point with whole coordinates, over 1
abbrev pub whole : Point → Fraction
whole p = record { X = p.x; Y = p.y; D = 1; above = lit< tt }

abbrev pub total : List ℕ → ℕ
total [] = 0
total (w ∷ ws) = w + total ws

-- the weighted sum
abbrev pub weigh : List ℕ → List Point → Point
weigh [] ps = origin
weigh (w ∷ ws) [] = origin
weigh (w ∷ ws) (p ∷ ps) = plus (times (pos w) p) (weigh ws ps)

-- f, written in some way, is the average of the points under natural weights, one beside each point: D is the sum of the weights, (X, Y) the weighted sum
pub record InHull (ps : List Point) (f : Fraction) : Type 0 where
  pub way : Fraction
  pub writes : SamePoint way f
  pub weights : List ℕ
  pub one_each : length weights ≡ length ps
  pub add_up : total weights ≡ way.D
  pub weighted : weigh weights ps ≡ point way.X way.Y

-- the list without p
abbrev pub others : Point → List Point → List Point
others p ps = filter (λ q. not (same q p)) ps

-- a listed point that the hull of the rest leaves out
pub record Corner (ps : List Point) (p : Point) : Type 0 where
  pub listed : ContainsAt ps p
  pub outside : InHull (others p ps) (whole p) → ⊥
