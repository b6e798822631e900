-- A zonotope keeps the bounds of a body's meaning: no choice of generators passes its span.
use Rattle.std.specs.Prelude.{ℕ, ◌+◌, ◌<◌, ◌≤◌, List, [], ◌∷◌, length, nat_lt}
use Rattle.std.proofs.Common.{arith, length-append}
use Rattle.std.specs.List.{AllByRecursion}
use Rattle.std.proofs.ByRecursion.{All-append}
use Rattle.std.proofs.lemmas.Bool.{cond_both}
use Rattle.plane.specs.declared.point.Point.{Point}
use Rattle.plane.specs.Plane.{size, plus}
use Rattle.body.specs.Bounds.{wider, size_within, plus_within, limited_bounded}
use Rattle.body.specs.Meaning.{Within, BoundedBy, Bounded}
use Rattle.body.specs.Zonotope.{choices, span, overrun, zonotope_meaning}

pub span_more : (r : ℕ) (gs : List Point) → r ≤ span r gs
span_more r [] = omega arith
span_more r (g ∷ gs) = omega (arith, span_more (r + size g) gs)

-- b is within r, and within r plus the size of g too
choices_within : (n r : ℕ) (b : Point) (gs : List Point) → Within r b → span r gs ≤ n → AllByRecursion (Within n) (choices b gs)
choices_within n r b [] w h = (wider r n h b w, tt)
choices_within n r b (g ∷ gs) w h =
    All-append (Within n) (choices b gs) (choices (plus b g) gs)
    (choices_within n (r + size g) b gs (wider r (r + size g) (omega arith) b w) h)
    (choices_within n (r + size g) (plus b g) gs (plus_within r (size g) b g w (size_within g)) h)

some_choices : (b : Point) (gs : List Point) → 0 < length (choices b gs)
some_choices b [] = omega arith
some_choices b (g ∷ gs) = omega (arith, some_choices b gs, length-append (choices b gs) (choices (plus b g) gs))

pub zonotope_bounded : (b : Point) (gs : List Point) → Bounded (zonotope_meaning b gs)
zonotope_bounded b gs = record {
  bounds = cond_both (nat_lt 64 (length gs)) _ _ (λ v. BoundedBy v (choices b gs)) (λ e. tt) (λ e.
      limited_bounded (overrun (size b) gs) (span (size b) gs) (choices b gs) (choices_within (span (size b) gs) (size b) b gs (size_within b) (omega arith)) (some_choices b gs));
}
