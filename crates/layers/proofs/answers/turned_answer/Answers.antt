-- The part's answer, turned, is the turn's.
use Rattle.plane.specs.Plane.{vector}
use Rattle.layers.specs.Layers.{quarter_turns}
use Rattle.layers.proofs.Layering.{told, answers, near, turned_told}
use Rattle.layers.proofs.Turning.{turns_carry}
use Rattle.layers.proofs.answers.turned_answer.Goals as goal

pub invariant_of-turn : goal.invariant_of-turn
invariant_of-turn g c = record { near = near (g.met.A.Body.bounded c.args.part.now) (told _ c.in_ok-p.ensures.cases c.support.ensures) }

pub returns : goal.returns
returns g c =
    let n = c.args.turns in
    answers (turned_told (quarter_turns n) c.turn_back.ensures (turns_carry n (vector c.args.u)) (told _ c.in_ok-p.ensures.cases c.support.ensures)) c.turn.ensures
