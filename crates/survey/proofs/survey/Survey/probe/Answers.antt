-- What the body answers is a first corner, or about the first open edge.
use Rattle.std.proofs.Common.{◌<◌, length, sym, ap, ◌∙◌, arith}
use Rattle.std.proofs.lemmas.Bool.{eqb-true, eqb-false}
use Rattle.survey.specs.Rules.{Probed}
use Rattle.survey.specs.State.{state}
use Rattle.survey.proofs.Marks.{length_marked, first_open_marked}
use Rattle.survey.proofs.Stillness.{refused_leaves}
use Rattle.survey.proofs.Steps.{probe_first, probe_about}
use Rattle.survey.proofs.survey.Survey.probe.Goals as goal

pub returns-then-is_empty : goal.returns-then-is_empty
returns-then-is_empty g c =
    let s = c.args.self.now in
    let m = g.A.Body.meaning s.body in
    let t = c.take_in.ensures in
    let not_closed = sym c.is_closed.ensures ∙ c.if-is_closed.false in
    let none = length_marked s.settled s.corners.items ∙ eqb-true _ _ (sym c.is_empty.ensures ∙ c.if-is_empty.true) in
    let e = probe_first m (state s) c.in_ok-asked.asked c.in_ok-at.at not_closed c.in_ok-asked.ensures c.in_ok-at.ensures none in
    let says = t.says ∙ ap (λ (p : Probed). p.says) e in
    let leaves = t.leaves ∙ ap (λ (p : Probed). p.leaves) e in
    record { held = t.held; says = says; leaves = leaves; still = refused_leaves m (state s) _ _ says leaves }

pub returns : goal.returns
returns g c =
    let s = c.args.self.now in
    let m = g.A.Body.meaning s.body in
    let t = c.about_edge.ensures in
    let not_closed = sym c.is_closed.ensures ∙ c.if-is_closed.false in
    let some : 0 < length (state s).found = omega (arith, length_marked s.settled s.corners.items, eqb-false _ _ (sym c.is_empty.ensures ∙ c.if-is_empty.false)) in
    let e = probe_about m (state s) c.in_ok-asked.asked c.in_ok-at.at not_closed c.in_ok-asked.ensures c.in_ok-at.ensures some s.settled (first_open_marked s.settled s.corners.items s.within) in
    let says = t.says ∙ ap (λ (p : Probed). p.says) e in
    let leaves = t.leaves ∙ ap (λ (p : Probed). p.leaves) e in
    record { held = t.held; says = says; leaves = leaves; still = refused_leaves m (state s) _ _ says leaves }
