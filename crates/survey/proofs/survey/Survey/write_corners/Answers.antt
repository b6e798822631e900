-- All the corners are written, and the slots after them are as they were.
use Rattle.std.proofs.Common.{arith, take-append-drop}
use Rattle.std.proofs.lemmas.Grind.{common_steps}
use Rattle.survey.proofs.Marks.{length_marked, corners_marked}
use Rattle.survey.proofs.survey.Survey.write_corners.Goals as goal

pub returns : goal.returns
returns g c = grind (arith, common_steps, take-append-drop c.loop-i.i c.loop-i.out, corners_marked, length_marked)
