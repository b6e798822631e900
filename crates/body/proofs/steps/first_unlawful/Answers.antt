-- The walk over the steps.
use Rattle.std.proofs.Common.{arith}
use Rattle.std.proofs.lemmas.Bool.Decides.{nat_tests}
use Rattle.body.proofs.Stepping.{steps_more, rose_more}
use Rattle.body.proofs.steps.first_unlawful.Goals as goal

pub returns-then-is_unlawful-clause-value : goal.returns-then-is_unlawful-clause-value
returns-then-is_unlawful-clause-value c = grind (arith, nat_tests, steps_more)

pub loop-i-preserved : goal.loop-i-preserved
loop-i-preserved c = (grind (arith, nat_tests, steps_more), grind (arith, nat_tests, rose_more))
