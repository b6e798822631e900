-- The farther of both answers is the join's.
use Rattle.layers.proofs.Layering.{told, answers, joined_told}
use Rattle.layers.proofs.answers.join_answer.Goals as goal

pub returns : goal.returns
returns g c =
    answers (joined_told (told _ c.in_ok-p.ensures.cases c.support.ensures) (told _ c.in_ok-q.ensures.cases c.support-2.ensures)) c.farther.ensures
