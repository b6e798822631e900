-- So many quarter turns, one after the other, and that they carry support points along.
use Rattle.std.proofs.Common.{◌≡◌, ℕ, zero, suc, ◌+◌, ◌-◌, ◌<◌, refl, ap, add-one, arith}
use Rattle.plane.specs.declared.point.Point.{Point}
use Rattle.plane.specs.Plane.{negate, perp}
use Rattle.plane.proofs.Carrying.{Carries, quarter_carries}
use Rattle.layers.specs.Layers.{quarter_turns, before_turns}

pub turns_more : (k : ℕ) (p : Point) → quarter_turns (k + 1) p ≡ perp (quarter_turns k p)
turns_more k p = ap (λ (n : ℕ). quarter_turns n p) (add-one k)

pub before_more : (n k : ℕ) (u : Point) → k < n → before_turns (n - (k + 1)) (negate (perp u)) ≡ before_turns (n - k) u
before_more n k u h = let e : suc (n - (k + 1)) ≡ n - k = omega arith in ap (λ (m : ℕ). before_turns m u) e

-- what lies farthest before the turns lies farthest after them
pub turns_carry : (k : ℕ) (u : Point) → Carries (quarter_turns k) (before_turns k u) u
turns_carry zero u p q h = h
turns_carry (suc k) u p q h = quarter_carries (negate (perp u)) u refl (quarter_turns k p) (quarter_turns k q) (turns_carry k (negate (perp u)) p q h)
