-- What a body means, and what it answers.
use Rattle.std.specs.Prelude.{◌≡◌, ℕ, ◌<◌, ◌≤◌, cond, List, length, Ok, Err, Result, nat_lt, unsigned_abs}
use Rattle.std.specs.List.{AllByRecursion}
use Rattle.plane.specs.declared.fault.Cause.TheVariants.{BeyondReach}
use Rattle.plane.specs.declared.fault.Fault.{Fault}
use Rattle.plane.specs.declared.point.Point.{Point}
use Rattle.plane.specs.Fault.{fault}
use Rattle.plane.specs.Support.{Supports, support}

-- `Ok` with the reach of a sound body, `Err` with the fault of a faulty one
abbrev pub Verdict : Type 0
Verdict = Result ℕ Fault

pub record Meaning : Type 0 where
  pub verdict : Verdict
  pub points : List Point

-- sound with this reach, or faulty at this place where the reach passes 1,000,000
abbrev pub limited : ℕ → ℕ → Verdict
limited place reach = cond (nat_lt 1000000 reach) (Err (fault BeyondReach place)) (Ok reach)

-- both coordinates are between -n and n
abbrev pub Within : ℕ → Point → Type 0
Within n p = (unsigned_abs p.x ≤ n) × (unsigned_abs p.y ≤ n)

abbrev pub BoundedBy : Verdict → List Point → Type 0
BoundedBy (Ok reach) ps = (reach ≤ 1000000) × AllByRecursion (Within reach) ps × (0 < length ps)
BoundedBy (Err f) ps = Unit {0}

-- a sound body has points, its reach bounds them, and the reach is bounded too; nothing is asked of a faulty one
pub record Bounded (m : Meaning) : Type 0 where
  pub bounds : BoundedBy m.verdict m.points

abbrev pub AnswersBy : Point → Verdict → List Point → Result Point Fault → Type 0
AnswersBy u (Ok reach) ps (Ok p) = Supports u ps p
AnswersBy u (Ok reach) ps (Err f) = ⊥
AnswersBy u (Err f) ps (Ok p) = ⊥
AnswersBy u (Err f) ps (Err e) = e ≡ f

-- r is what a body with this meaning owes its asker in direction u: the support point, or its fault
abbrev pub Answers : Meaning → Point → Result Point Fault → Type 0
Answers m u r = AnswersBy u m.verdict m.points r

abbrev pub answer_by : Point → Verdict → List Point → Result Point Fault
answer_by u (Ok reach) ps = Ok (support u ps)
answer_by u (Err f) ps = Err f

-- the same answer, worked out
abbrev pub answer : Meaning → Point → Result Point Fault
answer m u = answer_by u m.verdict m.points
