-- Laws of the bounds that a body's meaning keeps.
use Rattle.std.specs.Prelude.{ℕ, ◌+◌, ◌<◌, ◌≤◌, List, length, ℤ, ◌+ℤ◌, nat_lt, unsigned_abs}
use Rattle.std.proofs.Common.{arith}
use Rattle.std.specs.List.{AllByRecursion}
use Rattle.std.proofs.lemmas.Int.{ints}
use Rattle.std.proofs.lemmas.Bool.{ltb-false, cond_both}
use Rattle.plane.specs.declared.point.Point.{Point}
use Rattle.plane.specs.Plane.{size, plus}
use Rattle.body.specs.Meaning.{Within, BoundedBy, limited}

pub wider : (m n : ℕ) → m ≤ n → (p : Point) → Within m p → Within n p
wider m n h p w = let x = w.0 in let y = w.1 in (omega arith, omega arith)

abs_plus : (a b : ℤ) (m n : ℕ) → unsigned_abs a ≤ m → unsigned_abs b ≤ n → unsigned_abs (a +ℤ b) ≤ m + n
abs_plus a b m n h k = omega (arith, ints)

pub plus_within : (m n : ℕ) (p q : Point) → Within m p → Within n q → Within (m + n) (plus p q)
plus_within m n p q v w = (abs_plus p.x q.x m n v.0 w.0, abs_plus p.y q.y m n v.1 w.1)

pub size_within : (p : Point) → Within (size p) p
size_within p = (omega arith, omega arith)

-- a limited reach keeps the bounds where it bounds some points
pub limited_bounded : (place n : ℕ) (ps : List Point) → AllByRecursion (Within n) ps → 0 < length ps → BoundedBy (limited place n) ps
limited_bounded place n ps near some = cond_both (nat_lt 1000000 n) _ _ (λ v. BoundedBy v ps) (λ e. tt) (λ e. (ltb-false 1000000 n e, near, some))
