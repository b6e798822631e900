-- The part's answer, moved, is the move's.
use Rattle.layers.proofs.Layering.{told, answers, near, moved_told}
use Rattle.layers.proofs.answers.move_answer.Goals as goal

pub invariant_of-plus : goal.invariant_of-plus
invariant_of-plus g c = record { near = near (g.met.A.Body.bounded c.args.part.now) (told _ c.in_ok-p.ensures.cases c.support.ensures) }

pub returns : goal.returns
returns g c =
    answers (moved_told c.args.by c.requires (told _ c.in_ok-p.ensures.cases c.support.ensures)) c.plus.ensures
