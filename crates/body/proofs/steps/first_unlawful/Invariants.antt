-- No step before step i is unlawful, and whether one of them rose is known.
use Rattle.std.proofs.Common.{◌≡◌, ◌-◌, length}
use Rattle.body.specs.Ring.{rose, first_unlawful_from, first_unlawful}
use Rattle.body.proofs.steps.first_unlawful.Given as goal

abbrev pub invariant-loop-i : goal.invariant-loop-i
invariant-loop-i l = (first_unlawful_from l.corners (length l.corners - l.i) l.i ≡ first_unlawful l.corners) × (l.risen ≡ rose l.corners l.i)
