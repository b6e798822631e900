-- The corners of a ring, and the walk over its steps.
use Rattle.std.proofs.Common.{◌≡◌, ◌+◌, ◌-◌, ◌<◌, ◌≤◌, ◌||◌, ℕ, suc, cond, List, length, get_or, refl, ap, add-one, arith}
use Rattle.std.proofs.lemmas.List.Recursion.{max_bounds}
use Rattle.plane.specs.declared.point.Point.{Point}
use Rattle.plane.specs.Plane.{origin, size}
use Rattle.body.specs.Ring.{rises, rose, unlawful, first_unlawful_from}
use Rattle.body.specs.Set.{reach}

-- no corner passes the reach
pub corner_low : (ps : List Point) (i : ℕ) → i < length ps → size (get_or ps i origin) ≤ reach ps
corner_low ps i h = max_bounds reach size refl (λ _ _. refl) ps i origin h

one_less : (n i : ℕ) → i < n → n - i ≡ suc (n - (i + 1))
one_less n i h = omega arith

pub steps_more : (ps : List Point) (i : ℕ) → i < length ps → first_unlawful_from ps (length ps - i) i ≡ cond (unlawful ps i) i (first_unlawful_from ps (length ps - (i + 1)) (i + 1))
steps_more ps i h = rw (one_less (length ps) i h, add-one)

pub rose_more : (ps : List Point) (i : ℕ) → rose ps (i + 1) ≡ (rose ps i || rises ps i)
rose_more ps i = ap (rose ps) (add-one i)
