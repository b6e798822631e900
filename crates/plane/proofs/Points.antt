-- The tests of equality of numbers and points tell what they say.
use Rattle.std.proofs.Common.{◌≡◌, Bool, true, false, ◌&&◌, ◌⊎◌, ℤ, pos, negsuc, sym, refl, ap, ◌∙◌, subst, inl, inr}
use Rattle.std.specs.Ordering.{int_eq}
use Rattle.std.proofs.lemmas.Bool.{eqb-true, eq-eqb, and_parts, and_from, both_ways, false≢true, cases_Bool}
use Rattle.std.proofs.lemmas.Bool.Decides.{Decides-int_eq}
use Rattle.plane.specs.declared.point.Point.{Point}
use Rattle.plane.specs.Plane.{equal, same}

equal_itself : (a : ℤ) → equal a a ≡ true
equal_itself (pos n) = eq-eqb n n refl
equal_itself (negsuc n) = eq-eqb n n refl

pub equal_yes : (a b : ℤ) → a ≡ b → equal a b ≡ true
equal_yes a b e = subst (λ (z : ℤ). equal a z ≡ true) e (equal_itself a)

pub equal_true : (a b : ℤ) → equal a b ≡ true → a ≡ b
equal_true (pos m) (pos n) h = ap pos (eqb-true m n h)
equal_true (pos m) (negsuc n) h = absurd (both_ways false refl h)
equal_true (negsuc m) (pos n) h = absurd (both_ways false refl h)
equal_true (negsuc m) (negsuc n) h = ap negsuc (eqb-true m n h)

-- a test that holds only of what is not so fails
test_no : {X : Type 0} (t : Bool) → (t ≡ true → X) → (X → ⊥) → t ≡ false
test_no true f n = absurd (n (f refl))
test_no false f n = refl

pub point_same : {p q : Point} → p.x ≡ q.x → p.y ≡ q.y → p ≡ q
point_same e f = λ i. record { x = e i; y = f i }

pub same_yes : (p q : Point) → p ≡ q → same p q ≡ true
same_yes p q e = and_from _ _ (equal_yes _ _ (λ i. (e i).x)) (equal_yes _ _ (λ i. (e i).y))

pub same_true : (p q : Point) → same p q ≡ true → p ≡ q
same_true p q h = let k = and_parts (equal p.x q.x) (equal p.y q.y) h in point_same (equal_true _ _ k.0) (equal_true _ _ k.1)

pub same_no : (p q : Point) → (p ≡ q → ⊥) → same p q ≡ false
same_no p q n = test_no (same p q) (same_true p q) n

-- what `==` on points tells
pub told_same : (p q : Point) → true ≡ (int_eq p.x q.x && int_eq p.y q.y) → p ≡ q
told_same p q h =
    let k = and_parts (int_eq p.x q.x) (int_eq p.y q.y) (sym h) in
    point_same ((Decides-int_eq p.x q.x).0 k.0) ((Decides-int_eq p.y q.y).0 k.1)

pub told_apart : (p q : Point) → false ≡ (int_eq p.x q.x && int_eq p.y q.y) → p ≡ q → ⊥
told_apart p q h e =
    false≢true (h ∙ and_from _ _ ((Decides-int_eq p.x q.x).1 (λ i. (e i).x)) ((Decides-int_eq p.y q.y).1 (λ i. (e i).y)))

-- the test of the definitions is what `==` answers
pub same_by_eq : (p q : Point) → same p q ≡ (int_eq p.x q.x && int_eq p.y q.y)
same_by_eq p q = go (cases_Bool (int_eq p.x q.x && int_eq p.y q.y))
  where
    go : ((int_eq p.x q.x && int_eq p.y q.y) ≡ true) ⊎ ((int_eq p.x q.x && int_eq p.y q.y) ≡ false) → same p q ≡ (int_eq p.x q.x && int_eq p.y q.y)
    go (inl e) = same_yes p q (told_same p q (sym e)) ∙ sym e
    go (inr e) = same_no p q (told_apart p q (sym e)) ∙ sym e
