-- The body is the same, and the probes made so far, with a run on what is left of the budget, give the whole run.
use Rattle.std.proofs.Common.{◌≡◌, ◌-◌}
use Rattle.survey.specs.Rules.{run}
use Rattle.survey.specs.State.{state}
use Rattle.survey.proofs.Runs.{after}
use Rattle.survey.proofs.survey.Survey.run.Given as goal

abbrev pub invariant-loop-made : goal.invariant-loop-made
invariant-loop-made g l =
    let m = g.A.Body.meaning l.initial.self.body in
    record {
      held : l.self.body ≡ l.initial.self.body;
      whole : run m l.budget (state l.initial.self) ≡ after l.made (run m (l.budget - l.made) (state l.self));
    }
