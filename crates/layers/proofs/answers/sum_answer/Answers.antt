-- The sum of both answers is the sum's.
use Rattle.layers.proofs.Layering.{told, answers, near, summed_told}
use Rattle.layers.proofs.answers.sum_answer.Goals as goal

pub invariant_of-plus : goal.invariant_of-plus
invariant_of-plus g c = record { near = near (g.met.A.Body.bounded c.args.left.now) (told _ c.in_ok-p.ensures.cases c.support.ensures) }

pub invariant_of-plus-2 : goal.invariant_of-plus-2
invariant_of-plus-2 g c = record { near = near (g.met.B.Body.bounded c.args.right.now) (told _ c.in_ok-q.ensures.cases c.support-2.ensures) }

pub returns : goal.returns
returns g c =
    answers (summed_told c.requires (told _ c.in_ok-p.ensures.cases c.support.ensures) (told _ c.in_ok-q.ensures.cases c.support-2.ensures)) c.plus.ensures
