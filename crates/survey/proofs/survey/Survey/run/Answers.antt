-- One turn of a run: it goes on, or ends closed or refused.
use Rattle.std.proofs.Common.{◌≡◌, ◌⊎◌, Ok, sym, ap, ◌∙◌, arith}
use Rattle.calls.specs.declared.Said.TheVariants.{Corner, Settled}
use Rattle.survey.specs.Rules.{Run}
use Rattle.survey.proofs.Runs.{one_turn, counted}
use Rattle.survey.proofs.survey.Survey.run.Goals as goal

pub returns-in-Ok-Closed : goal.returns-in-Ok-Closed
returns-in-Ok-Closed g c =
    let t = c.in-Ok-Closed.ensures in
    let held = c.loop-made.invariant.held in
    let says = sym (ap Ok c.in-Ok-Closed.field-0-is) ∙ t.says in
    let w = one_turn _ _ _ _ _ _ _ _ (ap g.A.Body.meaning held) says t.leaves c.loop-made-test.true c.loop-made.invariant.whole in
    record { held = t.held ∙ held; tells = ap (λ (r : Run). r.tells) w; leaves = ap (λ (r : Run). r.leaves) w }

pub returns-in-Err : goal.returns-in-Err
returns-in-Err g c =
    let t = c.in-Err.ensures in
    let held = c.loop-made.invariant.held in
    let w = one_turn _ _ _ _ _ _ _ _ (ap g.A.Body.meaning held) t.says t.leaves c.loop-made-test.true c.loop-made.invariant.whole in
    record { held = t.held ∙ held; tells = ap (λ (r : Run). r.tells) w; leaves = ap (λ (r : Run). r.leaves) w }

pub loop-made-preserved : goal.loop-made-preserved
loop-made-preserved g c =
    let t = c.in-Ok-Corner.ensures in
    let held = c.loop-made.invariant.held in
    let one : (c.in-Ok-Corner.field-0 ≡ Corner) ⊎ (c.in-Ok-Corner.field-0 ≡ Settled) = grind arith in
    let w = one_turn _ _ _ _ _ _ _ _ (ap g.A.Body.meaning held) t.says t.leaves c.loop-made-test.true c.loop-made.invariant.whole in
    record { held = t.held ∙ held; whole = counted _ _ _ _ _ _ one w }
