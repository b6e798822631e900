-- What the loop over a log keeps.
use Rattle.std.proofs.Common.{◌≡◌, ◌++◌, take, drop}
use Rattle.survey.specs.Calls.{stand, leaves_from, tells_from, calls_of, told_of, each_told}
use Rattle.survey.proofs.survey.Survey.make_all.Given as goal

-- the body is the same, the calls are as they were, and the calls that are left tell and leave the rest of what all of them do
abbrev pub invariant-loop-entry : goal.invariant-loop-entry
invariant-loop-entry g l =
    let m = g.A.Body.meaning l.initial.self.body in
    let start = stand l.initial.self l.initial.buffer in
    let here = stand l.self l.buffer in
    let left = calls_of (drop l.entry-index l.log) in
    record {
      held : l.self.body ≡ l.initial.self.body;
      calls : calls_of l.log ≡ calls_of l.initial.log;
      tells : told_of (take l.entry-index l.log) ++ each_told (tells_from m here left) ≡ each_told (tells_from m start (calls_of l.initial.log));
      leaves : leaves_from m here left ≡ leaves_from m start (calls_of l.initial.log);
    }
