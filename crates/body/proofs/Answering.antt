-- The answer that a body owes is the one that is worked out from its meaning.
use Rattle.std.proofs.Common.{◌≡◌, List, Ok, Err, Result, ap}
use Rattle.plane.specs.declared.fault.Fault.{Fault}
use Rattle.plane.specs.declared.point.Point.{Point}
use Rattle.plane.specs.Plane.{origin}
use Rattle.plane.proofs.Supporting.{support_is}
use Rattle.body.specs.Meaning.{Verdict, Meaning, AnswersBy, Answers, answer_by, answer}

answers_is_by : (u : Point) (v : Verdict) (ps : List Point) (r : Result Point Fault) → ¬ (u ≡ origin) → AnswersBy u v ps r → r ≡ answer_by u v ps
answers_is_by u (Ok n) ps (Ok p) some h = ap Ok (support_is u ps p some h)
answers_is_by u (Ok n) ps (Err e) some h = absurd h
answers_is_by u (Err f) ps (Ok p) some h = absurd h
answers_is_by u (Err f) ps (Err e) some h = ap Err h

-- a body's answer is the one that is worked out
pub answers_is : (m : Meaning) (u : Point) (r : Result Point Fault) → ¬ (u ≡ origin) → Answers m u r → r ≡ answer m u
answers_is m u r some h = answers_is_by u m.verdict m.points r some h
