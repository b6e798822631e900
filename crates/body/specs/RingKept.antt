-- A ring keeps the bounds of a body's meaning.
use Rattle.std.specs.Prelude.{List, length, Ok, Err, nat_lt}
use Rattle.std.proofs.lemmas.Bool.{cond_both}
use Rattle.plane.specs.declared.point.Point.{Point}
use Rattle.body.specs.Meaning.{Verdict, BoundedBy, Bounded}
use Rattle.body.specs.Ring.{first_unlawful, steps_verdict, ring_meaning}
use Rattle.body.specs.Set.{points_verdict}
use Rattle.body.specs.SetKept.{points_bounded}

steps_bounded : (ps : List Point) (v : Verdict) → BoundedBy v ps → BoundedBy (steps_verdict ps v) ps
steps_bounded ps (Ok reach) b = cond_both (nat_lt (first_unlawful ps) (length ps)) _ _ (λ v. BoundedBy v ps) (λ e. tt) (λ e. b)
steps_bounded ps (Err f) b = tt

pub ring_bounded : (ps : List Point) → Bounded (ring_meaning ps)
ring_bounded ps = record { bounds = steps_bounded ps (points_verdict 256 ps) (points_bounded 256 ps) }
