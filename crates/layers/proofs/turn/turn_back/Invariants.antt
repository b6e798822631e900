-- The turns that are left lead from here to the direction before all.
use Rattle.std.proofs.Common.{◌≡◌, ◌-◌}
use Rattle.plane.specs.Plane.{vector}
use Rattle.layers.specs.Layers.{before_turns}
use Rattle.layers.proofs.turn.turn_back.Given as goal

abbrev pub invariant-loop : goal.invariant-loop
invariant-loop l = before_turns (l.turns - l.counter) (vector l.back) ≡ before_turns l.turns (vector l.fn.u)
