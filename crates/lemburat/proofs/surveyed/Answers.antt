-- A run from the opening, long enough for any survey.
use Rattle.std.proofs.Common.{ap, ◌∙◌}
use Rattle.survey.specs.Rules.{run, until_closed}
use Rattle.lemburat.proofs.surveyed.Goals as goal

pub returns : goal.returns
unfolding until_closed
returns g c =
    let o = c.open-survey.ensures in
    let body = ap g.A.Body.meaning o.held in
    record { tells = c.run-told.ensures.tells ∙ (λ j. (run (body j) 512 (o.none j)).tells); leaves = c.run-told.ensures.leaves ∙ (λ j. (run (body j) 512 (o.none j)).leaves) }
