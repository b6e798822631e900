-- The walk for the farthest choice.
use Rattle.std.proofs.Common.{◌≡◌, cond, get_or, sym, ◌∙◌, subst}
use Rattle.std.proofs.lemmas.Bool.{cond-true, cond-false}
use Rattle.std.proofs.lemmas.List.{at_drop_more, at_drop_all}
use Rattle.plane.specs.Plane.{origin, plus, vector}
use Rattle.plane.specs.Support.{Supports, beyond}
use Rattle.body.specs.Zonotope.{choices}
use Rattle.body.proofs.Spans.{picked, picked_supports, both_near, next_low}
use Rattle.body.proofs.zonotope.ChoicesShape.farthest.Goals as goal
use Rattle.body.proofs.zonotope.ChoicesShape.farthest.Goals.{then-beyond, else-beyond}

pub invariant_of-plus : goal.invariant_of-plus
invariant_of-plus c = record { near = (both_near c.args.self.now.generators.now c.loop-generator.generator-index c.loop-generator.best c.loop-generator-test.true c.loop-generator.invariant.1).0 }

pub invariant_of-plus-then-beyond : goal.invariant_of-plus-then-beyond
invariant_of-plus-then-beyond c = record { near = (both_near c.args.self.now.generators.now c.loop-generator.generator-index c.loop-generator.best c.loop-generator-test.true c.loop-generator.invariant.1).1 }

pub loop-generator-preserved : goal.loop-generator-preserved
loop-generator-preserved c =
    let u = vector c.args.u in
    let gs = c.args.self.now.generators.now in
    let i = c.loop-generator.generator-index in
    let p = c.loop-generator.best in
    let g = get_or gs i origin in
    let t = beyond u origin g in
    let more = at_drop_more (picked u p) gs i origin c.loop-generator-test.true in
    let chosen : c.if-beyond.best ≡ cond t (plus p g) p = elim c.if-beyond.branch [
      | then-beyond w ↦ w.best-is ∙ w.plus-best.ensures ∙ sym (cond-true _ _ _ (sym c.beyond.ensures ∙ w.if-beyond.true))
      | else-beyond w ↦ w.best-is ∙ sym (cond-false _ _ _ (sym c.beyond.ensures ∙ w.if-beyond.false))
    ] in
    rw chosen (sym more ∙ c.loop-generator.invariant.0, next_low gs i p c.loop-generator-test.true c.loop-generator.invariant.1 t)

pub returns : goal.returns
returns c =
    let u = vector c.args.u in
    let b = c.args.self.now.base in
    let gs = c.args.self.now.generators.now in
    let all = at_drop_all (picked u c.loop-generator.best) gs c.loop-generator.generator-index c.loop-generator-test.false in
    subst (Supports u (choices b gs)) (cc) (picked_supports u b gs)
