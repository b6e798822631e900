-- As many turns as were counted are made.
use Rattle.std.proofs.Common.{◌≡◌}
use Rattle.layers.specs.Layers.{quarter_turns}
use Rattle.layers.proofs.turn.turn.Given as goal

abbrev pub invariant-loop : goal.invariant-loop
invariant-loop l = l.turned.at ≡ quarter_turns l.counter l.fn.p.at
