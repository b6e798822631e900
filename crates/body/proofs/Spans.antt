-- The walks over the generators of a zonotope, and its support point.
use Rattle.std.proofs.Common.{◌≡◌, ℕ, ◌+◌, ◌<◌, ◌≤◌, Bool, true, false, cond, List, [], ◌∷◌, ◌++◌, length, get_or, drop, refl, subst, arith}
use Rattle.std.specs.List.{ContainsAt, AllByRecursion}
use Rattle.std.proofs.ByRecursion.{All-append, has_append_left, has_append_right, has_push}
use Rattle.std.proofs.lemmas.Bool.{cond_both}
use Rattle.std.proofs.lemmas.Bool.Decides.{nat_tests}
use Rattle.std.proofs.lemmas.Int.{ints}
use Rattle.std.proofs.lemmas.List.{at_drop_more}
use Rattle.plane.specs.declared.point.Point.{Point}
use Rattle.plane.specs.Plane.{origin, size, plus}
use Rattle.plane.specs.Support.{NotBeyond, Supports, beyond}
use Rattle.plane.proofs.Carrying.{not_beyond_plus}
use Rattle.plane.proofs.Points.{point_same}
use Rattle.plane.proofs.Supporting.{not_beyond_itself, beyond_yes, beyond_no}
use Rattle.body.specs.Bounds.{size_within, plus_within}
use Rattle.body.specs.Meaning.{limited}
use Rattle.body.specs.Zonotope.{choices, span, overrun}
use Rattle.body.specs.ZonotopeKept.{span_more}

-- a reach beyond the limit is the fault at its place, whatever is added
pub beyond_stays : (place r : ℕ) (gs : List Point) → 1000000 < r → limited (place + overrun r gs) (span r gs) ≡ limited place r
beyond_stays place r [] h = grind (arith, nat_tests)
beyond_stays place r (g ∷ gs) h = grind (arith, nat_tests, span_more)

-- ---- the farthest choice

-- b plus each generator that lies beyond the origin
abbrev pub picked : Point → Point → List Point → Point
picked u b [] = b
picked u b (g ∷ gs) = picked u (cond (beyond u origin g) (plus b g) b) gs

plus_origin : (p : Point) → plus p origin ≡ p
plus_origin p = point_same (omega (arith, ints)) (omega (arith, ints))

module _ (u : Point) where
  -- with g or without it, as chosen, a is not behind b, nor behind b with g
  chosen : (g a b : Point) → NotBeyond u a b → (t : Bool) → beyond u origin g ≡ t → NotBeyond u (cond t (plus a g) a) b × NotBeyond u (cond t (plus a g) a) (plus b g)
  chosen g a b h true e = (subst (NotBeyond u (plus a g)) (plus_origin b) (not_beyond_plus u a g b origin h (beyond_yes u origin g e)), not_beyond_plus u a g b g h (not_beyond_itself u g))
  chosen g a b h false e = (h, subst (λ (z : Point). NotBeyond u z (plus b g)) (plus_origin a) (not_beyond_plus u a origin b g h (beyond_no u origin g e)))

  picked_greatest : (gs : List Point) (a b : Point) → NotBeyond u a b → AllByRecursion (NotBeyond u (picked u a gs)) (choices b gs)
  picked_greatest [] a b h = (h, tt)
  picked_greatest (g ∷ gs) a b h =
      let c = cond (beyond u origin g) (plus a g) a in
      let k = chosen g a b h (beyond u origin g) refl in
      All-append (NotBeyond u (picked u c gs)) (choices b gs) (choices (plus b g) gs) (picked_greatest gs c b k.0) (picked_greatest gs c (plus b g) k.1)

  picked_listed : (gs : List Point) (b : Point) → ContainsAt (choices b gs) (picked u b gs)
  picked_listed [] b = has_push [] b
  picked_listed (g ∷ gs) b = go (beyond u origin g) (picked_listed gs (plus b g)) (picked_listed gs b)
    where
      go : (t : Bool) → ContainsAt (choices (plus b g) gs) (picked u (plus b g) gs) → ContainsAt (choices b gs) (picked u b gs) → ContainsAt (choices b gs ++ choices (plus b g) gs) (picked u (cond t (plus b g) b) gs)
      go true h k = has_append_right (choices b gs) (choices (plus b g) gs) _ h
      go false h k = has_append_left (choices b gs) (choices (plus b g) gs) _ k

  pub picked_supports : (b : Point) (gs : List Point) → Supports u (choices b gs) (picked u b gs)
  picked_supports b gs = record { listed = picked_listed gs b; greatest = picked_greatest gs b b (not_beyond_itself u b) }

-- ---- the walk for it stays within the limit

span_grows : (r s : ℕ) (gs : List Point) → r ≤ s → span r gs ≤ span s gs
span_grows r s [] h = h
span_grows r s (g ∷ gs) h = span_grows (r + size g) (s + size g) gs (omega arith)

size_plus : (p q : Point) → size (plus p q) ≤ size p + size q
size_plus p q = let w = plus_within (size p) (size q) p q (size_within p) (size_within q) in omega arith

-- p, with gs from place i on to come, stays within the limit: so do p and the generator at place i, and so does what is chosen there
module _ (gs : List Point) (i : ℕ) (p : Point) (h : i < length gs) (low : span (size p) (drop i gs) ≤ 1000000) where
  pub both_near : (size p ≤ 1000000) × (size (get_or gs i origin) ≤ 1000000)
  both_near =
      let g = get_or gs i origin in
      let more = at_drop_more (span (size p)) gs i origin h in
      let grows = span_more (size p + size g) (drop (i + 1) gs) in
      (omega arith, omega arith)

  pub next_low : (t : Bool) → span (size (cond t (plus p (get_or gs i origin)) p)) (drop (i + 1) gs) ≤ 1000000
  next_low t =
      let g = get_or gs i origin in
      let k = cond_both t (plus p g) p (λ q. size q ≤ size p + size g) (λ e. size_plus p g) (λ e. omega arith) in
      omega (arith, at_drop_more (span (size p)) gs i origin h, span_grows (size (cond t (plus p g) p)) (size p + size g) (drop (i + 1) gs) k)
