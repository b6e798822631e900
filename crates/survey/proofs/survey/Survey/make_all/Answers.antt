-- One entry more.
use Rattle.std.proofs.Common.{◌<◌, length, get_or, ap, ◌∙◌, arith}
use Rattle.survey.specs.Calls.{stand, make}
use Rattle.survey.proofs.Replaying.{calls_kept, tells_more, leaves_more}
use Rattle.survey.proofs.survey.Survey.make_all.Goals as goal

pub loop-entry-preserved : goal.loop-entry-preserved
loop-entry-preserved g c =
    let m = g.A.Body.meaning c.args.self.now.body in
    let es = c.loop-entry.log in
    let i = c.loop-entry.entry-index in
    let x = c.entry-item.result in
    let d = stand c.loop-entry.self c.loop-entry.buffer in
    let d' = stand c.make.new.self c.make.new.buffer in
    let within : i < length es = omega arith in
    let held = c.loop-entry.invariant.held in
    let made = c.make.ensures in
    let same = ap (λ b. make (g.A.Body.meaning b) d (get_or es i x).call) held in
    record {
      held = made.held ∙ held;
      calls = calls_kept m es i x within d d' c.make.result ∙ c.loop-entry.invariant.calls;
      tells = tells_more m es i x within d d' c.make.result _ same made.leaves made.tells ∙ c.loop-entry.invariant.tells;
      leaves = leaves_more m es i x within d d' c.make.result _ same made.leaves ∙ c.loop-entry.invariant.leaves;
    }
