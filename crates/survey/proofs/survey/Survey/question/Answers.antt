-- With two corners or more the question is the normal of the first open edge.
use Rattle.std.proofs.Common.{arith}
use Rattle.std.proofs.lemmas.Grind.{common_steps}
use Rattle.survey.proofs.Marks.{question_outward, closed_marked}
use Rattle.survey.proofs.survey.Survey.question.Goals as goal

pub returns-in_default : goal.returns-in_default
returns-in_default g c =
    let s = c.args.self.now in
    grind (arith, common_steps, closed_marked, question_outward s.settled s.corners.items c.index-corners-self.result)
