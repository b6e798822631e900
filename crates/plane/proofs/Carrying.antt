-- How the order that support points go by is carried on: by adding, by turning points and direction alike, from a list to its image.
use Rattle.std.proofs.Common.{◌≡◌, ℕ, zero, suc, ◌<◌, Bool, true, false, cond, ◌⊎◌, List, [], ◌∷◌, ◌++◌, map, length, get_or, ℤ, ◌+ℤ◌, ◌≤ℤ◌, ◌<ℤ◌, sym, refl, ap, subst, inl, inr, arith}
use Rattle.std.specs.List.{ContainsAt}
use Rattle.std.proofs.ByRecursion.{All-map, All-weaker, All-append, has_append_left, has_append_right}
use Rattle.plane.specs.declared.point.Point.{Point}
use Rattle.plane.specs.Plane.{plus, negate, dot, perp}
use Rattle.plane.specs.Support.{NotBeyond, Supports, beyond}
use Rattle.plane.proofs.Laws.{lin}
use Rattle.plane.proofs.Ring.{ring, reads}
use Rattle.plane.proofs.Apart.{coordinates}
use Rattle.plane.proofs.Supporting.{not_beyond_trans, beyond_yes, beyond_no}

-- ---- adding

dot_plus : (u p q : Point) → dot u (plus p q) ≡ dot u p +ℤ dot u q
dot_plus u p q = ring (coordinates (u ∷ p ∷ q ∷ [])) (search reads depth 20) refl

-- two lexicographic orders, of (a, c) over (b, d) and of (e, g) over (f, h), added up
order_plus : (a b c d e f g h s t v w : ℤ) → s ≡ a +ℤ e → t ≡ b +ℤ f → v ≡ c +ℤ g → w ≡ d +ℤ h → ((b <ℤ a) ⊎ ((b ≡ a) × (d ≤ℤ c))) → ((f <ℤ e) ⊎ ((f ≡ e) × (h ≤ℤ g))) → (t <ℤ s) ⊎ ((t ≡ s) × (w ≤ℤ v))
order_plus a b c d e f g h s t v w i j k l (inl x) (inl y) = inl (omega (arith, lin))
order_plus a b c d e f g h s t v w i j k l (inl x) (inr y) = inl (omega (arith, lin))
order_plus a b c d e f g h s t v w i j k l (inr x) (inl y) = inl (omega (arith, lin))
order_plus a b c d e f g h s t v w i j k l (inr x) (inr y) = inr (omega (arith, lin), omega (arith, lin))

pub not_beyond_plus : (u p q a b : Point) → NotBeyond u p a → NotBeyond u q b → NotBeyond u (plus p q) (plus a b)
not_beyond_plus u p q a b h k =
    order_plus (dot u p) (dot u a) (dot (perp u) p) (dot (perp u) a) (dot u q) (dot u b) (dot (perp u) q) (dot (perp u) b) _ _ _ _
    (dot_plus u p q) (dot_plus u a b) (dot_plus (perp u) p q) (dot_plus (perp u) a b) h k

-- ---- the image of a list

pub has_map : {X Y : Type 0} (f : X → Y) (xs : List X) (x : X) → ContainsAt xs x → ContainsAt (map f xs) (f x)
has_map {X = X} {Y = Y} f xs x (k, l, e) = (k, (go xs k l e).0, (go xs k l e).1)
  where
    go : (ys : List X) (k : ℕ) → k < length ys → ((d : X) → get_or ys k d ≡ x) → (k < length (map f ys)) × ((d : Y) → get_or (map f ys) k d ≡ f x)
    go [] k l e = absurd (omega arith)
    go (y ∷ ys) zero l e = (omega arith, λ d. ap f (e y))
    go (y ∷ ys) (suc k) l e = let r = go ys k (omega arith) e in (omega arith, r.1)

-- t carries the order in direction w to the order in direction u
abbrev pub Carries : (Point → Point) → Point → Point → Type 0
Carries t w u = (p q : Point) → NotBeyond w p q → NotBeyond u (t p) (t q)

pub map_supports : (t : Point → Point) (w u : Point) (ps : List Point) (p : Point) → Carries t w u → Supports w ps p → Supports u (map t ps) (t p)
map_supports t w u ps p law s = record {
  listed = has_map t ps p s.listed;
  greatest = All-map (NotBeyond u (t p)) t ps (All-weaker (NotBeyond w p) (λ q. NotBeyond u (t p) (t q)) (law p) ps s.greatest);
}

pub plus_carries : (u v : Point) → Carries (λ p. plus p v) u u
plus_carries u v p q h = not_beyond_plus u p v q v h (inr (refl, omega (arith, lin)))

-- ---- turning

-- points turned by t have in direction u the products that they had in direction w
turn_carries : (t : Point → Point) (w u : Point) → ((p : Point) → dot w p ≡ dot u (t p)) → ((p : Point) → dot (perp w) p ≡ dot (perp u) (t p)) → Carries t w u
turn_carries t w u far off p q h = same (dot w p) (dot w q) (dot (perp w) p) (dot (perp w) q) _ _ _ _ (far p) (far q) (off p) (off q) h
  where
    same : (a b c d e f g h : ℤ) → a ≡ e → b ≡ f → c ≡ g → d ≡ h → ((b <ℤ a) ⊎ ((b ≡ a) × (d ≤ℤ c))) → (f <ℤ e) ⊎ ((f ≡ e) × (h ≤ℤ g))
    same a b c d e f g h i j k l (inl x) = inl (omega (arith, lin))
    same a b c d e f g h i j k l (inr x) = inr (omega (arith, lin), omega (arith, lin))

-- half a turn: asked in the opposite direction
pub half_carries : (w u : Point) → w ≡ negate u → Carries negate w u
half_carries w u e =
    subst (λ (z : Point). Carries negate z u) (sym e)
    (turn_carries negate (negate u) u (λ p. ring (coordinates (u ∷ p ∷ [])) (search reads depth 20) refl) (λ p. ring (coordinates (u ∷ p ∷ [])) (search reads depth 20) refl))

-- a quarter turn to the left: asked in the direction turned back, to the right
pub quarter_carries : (w u : Point) → w ≡ negate (perp u) → Carries perp w u
quarter_carries w u e =
    subst (λ (z : Point). Carries perp z u) (sym e)
    (turn_carries perp (negate (perp u)) u (λ p. ring (coordinates (u ∷ p ∷ [])) (search reads depth 20) refl) (λ p. ring (coordinates (u ∷ p ∷ [])) (search reads depth 20) refl))

-- ---- two lists

-- the farther of the two support points
pub append_supports : (u : Point) (ps qs : List Point) (p q : Point) → Supports u ps p → Supports u qs q → Supports u (ps ++ qs) (cond (beyond u p q) q p)
append_supports u ps qs p q s t = go (beyond u p q) refl
  where
    go : (b : Bool) → beyond u p q ≡ b → Supports u (ps ++ qs) (cond b q p)
    go true e = record {
      listed = has_append_right ps qs q t.listed;
      greatest = All-append (NotBeyond u q) ps qs (All-weaker (NotBeyond u p) (NotBeyond u q) (λ x. not_beyond_trans u q p x (beyond_yes u p q e)) ps s.greatest) t.greatest;
    }
    go false e = record {
      listed = has_append_left ps qs p s.listed;
      greatest = All-append (NotBeyond u p) ps qs s.greatest (All-weaker (NotBeyond u q) (NotBeyond u p) (λ x. not_beyond_trans u p q x (beyond_no u p q e)) qs t.greatest);
    }
