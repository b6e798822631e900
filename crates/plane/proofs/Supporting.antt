-- The support point that is worked out is one, and there is no other.
use Rattle.std.proofs.Common.{◌≡◌, zero, suc, ◌+◌, ◌<◌, Bool, true, false, cond, not, ◌&&◌, ◌||◌, ◌⊎◌, List, [], ◌∷◌, length, ℤ, pos, nat_abs, ◌≤ℤ◌, ◌<ℤ◌, refl, subst, inl, inr, arith}
use lib.Signed.{lt_z}
use Rattle.std.specs.List.{ContainsAt}
use Rattle.std.proofs.ByRecursion.{all-has, has_append_right}
use Rattle.std.proofs.lemmas.Int.{ints}
use Rattle.plane.specs.declared.point.Point.{Point}
use Rattle.plane.specs.declared.direction.Direction.{Direction}
use Rattle.plane.specs.Plane.{origin, vector, dot, perp}
use Rattle.plane.specs.Support.{NotBeyond, Supports, beyond, farthest, support}
use Rattle.plane.proofs.Laws.{lin}
use Rattle.plane.proofs.Order.{le_antisym}
use Rattle.plane.proofs.Apart.{apart}

-- a direction is no zero vector
pub some_way : (u : Direction) → ¬ (vector u ≡ origin)
some_way u e =
    let ex : u.x ≡ pos 0 = λ i. (e i).x in
    let ey : u.y ≡ pos 0 = λ i. (e i).y in
    let some : 0 < nat_abs u.x + nat_abs u.y = u.some in
    let none : 0 < nat_abs (pos 0) + nat_abs (pos 0) = subst (λ (z : ℤ). 0 < nat_abs (pos 0) + nat_abs z) ey (subst (λ (z : ℤ). 0 < nat_abs z + nat_abs u.y) ex some) in
    omega arith

-- ---- the order that support points go by

pub not_beyond_itself : (u p : Point) → NotBeyond u p p
not_beyond_itself u p = inr (refl, omega (arith, ints))

order_trans : (a b c d e f : ℤ) → ((b <ℤ a) ⊎ ((b ≡ a) × (e ≤ℤ d))) → ((c <ℤ b) ⊎ ((c ≡ b) × (f ≤ℤ e))) → (c <ℤ a) ⊎ ((c ≡ a) × (f ≤ℤ d))
order_trans a b c d e f (inl h) (inl k) = inl (omega (arith, ints))
order_trans a b c d e f (inl h) (inr k) = inl (omega (arith, ints))
order_trans a b c d e f (inr h) (inl k) = inl (omega (arith, ints))
order_trans a b c d e f (inr h) (inr k) = inr (omega (arith, ints), omega (arith, ints))

pub not_beyond_trans : (u p q r : Point) → NotBeyond u p q → NotBeyond u q r → NotBeyond u p r
not_beyond_trans u p q r h k = order_trans (dot u p) (dot u q) (dot u r) (dot (perp u) p) (dot (perp u) q) (dot (perp u) r) h k

-- what the test tells, over plain numbers: u·p, u·q, perp(u)·p and perp(u)·q
test_yes : (f g h k : ℤ) → (lt_z f g || (not (lt_z g f) && lt_z h k)) ≡ true → (f <ℤ g) ⊎ ((f ≡ g) × (h ≤ℤ k))
test_yes f g h k t = grind (arith, ints)

test_no : (f g h k : ℤ) → (lt_z f g || (not (lt_z g f) && lt_z h k)) ≡ false → (g <ℤ f) ⊎ ((g ≡ f) × (k ≤ℤ h))
test_no f g h k t = grind (arith, ints)

pub beyond_yes : (u p q : Point) → beyond u p q ≡ true → NotBeyond u q p
beyond_yes u p q h = test_yes (dot u p) (dot u q) (dot (perp u) p) (dot (perp u) q) h

pub beyond_no : (u p q : Point) → beyond u p q ≡ false → NotBeyond u p q
beyond_no u p q h = test_no (dot u p) (dot u q) (dot (perp u) p) (dot (perp u) q) h

-- ---- the point that is worked out

has_past : {X : Type 0} (p q : X) (qs : List X) (r : X) → ContainsAt (p ∷ qs) r → ContainsAt (p ∷ q ∷ qs) r
has_past p q qs r (zero, l, e) = (0, omega arith, e)
has_past p q qs r (suc k, l, e) = (suc (suc k), omega arith, e)

pub farthest_supports : (u p : Point) (qs : List Point) → Supports u (p ∷ qs) (farthest u p qs)
farthest_supports u p [] = record { listed = (0, omega arith, λ d. refl); greatest = (not_beyond_itself u p, tt) }
farthest_supports u p (q ∷ qs) = go (beyond u p q) refl (farthest_supports u p qs) (farthest_supports u q qs)
  where
    go : (b : Bool) → beyond u p q ≡ b → Supports u (p ∷ qs) (farthest u p qs) → Supports u (q ∷ qs) (farthest u q qs) → Supports u (p ∷ q ∷ qs) (farthest u (cond b q p) qs)
    go true e s t = record { listed = has_append_right (p ∷ []) (q ∷ qs) (farthest u q qs) t.listed; greatest = (not_beyond_trans u (farthest u q qs) q p t.greatest.0 (beyond_yes u p q e), t.greatest) }
    go false e s t = record { listed = has_past p q qs (farthest u p qs) s.listed; greatest = (s.greatest.0, (not_beyond_trans u (farthest u p qs) p q s.greatest.0 (beyond_no u p q e), s.greatest.1)) }

pub support_supports : (u : Point) (ps : List Point) → 0 < length ps → Supports u ps (support u ps)
support_supports u [] h = absurd (omega arith)
support_supports u (p ∷ ps) h = farthest_supports u p ps

-- ---- there is no other

level : (a b c d : ℤ) → ((a <ℤ b) ⊎ ((a ≡ b) × (c ≤ℤ d))) → ((b <ℤ a) ⊎ ((b ≡ a) × (d ≤ℤ c))) → (a ≡ b) × (c ≡ d)
level a b c d (inl h) (inl k) = absurd (omega (arith, lin))
level a b c d (inl h) (inr k) = absurd (omega (arith, lin))
level a b c d (inr h) (inl k) = absurd (omega (arith, lin))
level a b c d (inr h) (inr k) = (h.0, le_antisym h.1 k.1)

pub support_unique : (u : Point) (ps : List Point) (p q : Point) → ¬ (u ≡ origin) → Supports u ps p → Supports u ps q → q ≡ p
support_unique u ps p q n s t =
    let e = level (dot u q) (dot u p) (dot (perp u) q) (dot (perp u) p) (all-has (NotBeyond u p) ps q s.greatest t.listed) (all-has (NotBeyond u q) ps p t.greatest s.listed) in
    apart u p q n e.0 e.1

some_listed : (ps : List Point) (p : Point) → ContainsAt ps p → 0 < length ps
some_listed ps p (k, l, e) = omega arith

pub support_is : (u : Point) (ps : List Point) (p : Point) → ¬ (u ≡ origin) → Supports u ps p → p ≡ support u ps
support_is u ps p n s = support_unique u ps (support u ps) p n (support_supports u ps (some_listed ps p s.listed)) s
