-- A list of points keeps the bounds of a body's meaning.
use Rattle.std.specs.Prelude.{◌≡◌, ℕ, ◌≤◌, Bool, true, false, cond, List, [], ◌∷◌, length, Ok, Err, ◌==◌, ◌≢◌, nat_lt, refl}
use Rattle.std.proofs.Common.{arith}
use Rattle.std.specs.List.{AllByRecursion}
use Rattle.std.proofs.lemmas.Bool.{ltb-false, eqb-false}
use Rattle.plane.specs.declared.fault.Cause.TheVariants.{NoPoints, TooManyPoints, BeyondReach}
use Rattle.plane.specs.declared.point.Point.{Point}
use Rattle.plane.specs.Fault.{fault}
use Rattle.body.specs.Meaning.{Within, BoundedBy, Bounded}
use Rattle.body.specs.Set.{reach, first_beyond, reach_verdict, points_verdict, set_meaning}

-- no point passes a number that the reach does not pass
all_within : (n : ℕ) (ps : List Point) → reach ps ≤ n → AllByRecursion (Within n) ps
all_within n [] h = tt
all_within n (p ∷ ps) h = ((omega arith, omega arith), all_within n ps (omega arith))

some_points : (most : ℕ) (ps : List Point) → (length ps ≢ 0) → (b : Bool) → nat_lt most (length ps) ≡ b → BoundedBy (cond b (Err (fault TooManyPoints most)) (reach_verdict ps)) ps
some_points most ps some true e = tt
some_points most ps some false e = within (nat_lt 1000000 (reach ps)) refl
  where
    within : (b : Bool) → nat_lt 1000000 (reach ps) ≡ b → BoundedBy (cond b (Err (fault BeyondReach (first_beyond ps))) (Ok (reach ps))) ps
    within true e = tt
    within false e = (ltb-false 1000000 (reach ps) e, all_within (reach ps) ps (omega arith), omega arith)

pub points_bounded : (most : ℕ) (ps : List Point) → BoundedBy (points_verdict most ps) ps
points_bounded most ps = go (length ps == 0) refl
  where
    go : (b : Bool) → (length ps == 0) ≡ b → BoundedBy (cond b (Err (fault NoPoints 0)) (cond (nat_lt most (length ps)) (Err (fault TooManyPoints most)) (reach_verdict ps))) ps
    go true e = tt
    go false e = some_points most ps (eqb-false (length ps) 0 e) (nat_lt most (length ps)) refl

pub set_bounded : (ps : List Point) → Bounded (set_meaning ps)
set_bounded ps = record { bounds = points_bounded 1024 ps }
