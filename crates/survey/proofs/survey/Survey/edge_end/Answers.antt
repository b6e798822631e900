-- The end of the first open edge, where a next corner is.
use Rattle.std.proofs.Common.{arith}
use Rattle.std.proofs.lemmas.Grind.{common_steps}
use Rattle.survey.proofs.Marks.{edge_end_marked}
use Rattle.survey.proofs.survey.Survey.edge_end.Goals as goal

pub returns-in-Some : goal.returns-in-Some
returns-in-Some g c =
    let s = c.args.self.now in
    grind (arith, common_steps, edge_end_marked s.settled s.corners.items c.in-Some.corner.now, c.in-Some.ensures)
