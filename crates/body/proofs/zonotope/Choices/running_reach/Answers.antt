-- The walk over the generators.
use Rattle.std.proofs.Common.{◌+◌, drop, arith}
use Rattle.std.proofs.lemmas.Grind.{common_steps}
use Rattle.plane.specs.Plane.{size}
use Rattle.body.proofs.Spans.{beyond_stays}
use Rattle.body.proofs.zonotope.Choices.running_reach.Goals as goal

pub returns-in_err-reach : goal.returns-in_err-reach
returns-in_err-reach c = grind (arith, common_steps, beyond_stays 0 (size c.args.self.now.base) c.args.self.now.generators.now)

pub returns-in_err-reach-2 : goal.returns-in_err-reach-2
returns-in_err-reach-2 c = grind (arith, common_steps, beyond_stays (c.loop-added.added + 1) c.reach_with.result (drop (c.loop-added.added + 1) c.args.self.now.generators.now))
