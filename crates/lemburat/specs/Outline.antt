-- What surveying a body until closed tells, and what the lent slots then hold.
use Rattle.std.specs.Prelude.{ℕ, List, Ok, Err, Result}
use Rattle.plane.specs.declared.fault.Fault.{Fault}
use Rattle.plane.specs.declared.point.Point.{Point}
use Rattle.body.specs.Meaning.{Meaning}
use Rattle.calls.specs.declared.Counts.{Counts}
use Rattle.calls.specs.declared.Ended.{Ended}
use Rattle.calls.specs.declared.Ended.TheVariants.{Closed, Spent, Refused}
use Rattle.survey.specs.Rules.{State, until_closed}
use Rattle.survey.specs.Calls.{Outlined, no_outline, read_counts, read_outline}

-- the outline of a run that is over, or its refusal with the slots as they were
abbrev pub read_after : Ended → State → List Point → Outlined
read_after Closed s b = read_outline s b
read_after Spent s b = read_outline s b
read_after (Refused f) s b = no_outline f b

-- the counts in the place of the number of corners
abbrev pub counted : Result ℕ Fault → State → Result Counts Fault
counted (Ok n) s = Ok (read_counts s)
counted (Err f) s = Err f

-- a survey of a body that means m, run from its opening, and then read
abbrev pub outline_of : Meaning → List Point → Outlined
outline_of m b = read_after (until_closed m).tells.ended (until_closed m).leaves b

abbrev pub counts_of : Meaning → List Point → Result Counts Fault
counts_of m b = counted (outline_of m b).tells (until_closed m).leaves
