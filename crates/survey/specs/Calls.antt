-- Any list of calls on one survey: what it leaves, and all that the calls tell and write.
use Rattle.std.specs.Prelude.{ℕ, cond, List, [], ◌∷◌, ◌++◌, map, length, take, drop, Some, Ok, Err, Option, Result, nat_lt, slice_index_or}
use Rattle.std.specs.Option.{option_map}
use Rattle.plane.specs.declared.fault.Cause.TheVariants.{NoSuchCorner, NotClosed, BufferTooShort}
use Rattle.plane.specs.declared.fault.Fault.{Fault}
use Rattle.plane.specs.declared.point.Point.{Point}
use Rattle.plane.specs.Fault.{fault}
use Rattle.body.specs.Meaning.{Meaning}
use Rattle.calls.specs.declared.Call.{Call}
use Rattle.calls.specs.declared.Call.TheVariants as call
use Rattle.calls.specs.declared.Corner.{Corner}
use Rattle.calls.specs.declared.Counts.{Counts}
use Rattle.calls.specs.declared.Entry.{Entry}
use Rattle.calls.specs.declared.Ran.{Ran}
use Rattle.calls.specs.declared.Said.{Said}
use Rattle.calls.specs.declared.Told.{Told}
use Rattle.calls.specs.declared.Told.TheVariants as told
use Rattle.survey.specs.declared.survey.Survey.{Survey}
use Rattle.survey.specs.Rules.{State, opened, corners, closed, nothing, probe, run}
use Rattle.survey.specs.State.{found_by, state}

-- ---- readings

abbrev pub read_counts : State → Counts
read_counts s = record { corners = length s.found; probes = s.probes }

-- a corner and the direction that found it, or a refusal where it is not found yet
abbrev pub read_corner : State → ℕ → Result (Point × Point) Fault
read_corner s i =
    cond (nat_lt i (length s.found))
    (Ok ((slice_index_or s.found i nothing).corner, (slice_index_or s.found i nothing).asked))
    (Err (fault NoSuchCorner 0))

-- what the reading of an outline tells, and what its buffer then holds
pub record Outlined : Type 0 where
  pub tells : Result ℕ Fault
  pub buffer : List Point

abbrev pub no_outline : Fault → List Point → Outlined
no_outline f b = record { tells = Err f; buffer = b }

-- the corners go into the front of the buffer; not closed goes before too short
abbrev pub read_outline : State → List Point → Outlined
read_outline s b =
    cond (closed s)
    (cond (nat_lt (length b) (length s.found))
    (no_outline (fault BufferTooShort 0) b)
    (record { tells = Ok (length s.found); buffer = corners s ++ drop (length s.found) b }))
    (no_outline (fault NotClosed 0) b)

-- ---- one call

-- what a call tells; a direction is told by its components
pub data Tells : Type 0 where
  of_probe : Result Said Fault → Tells
  of_run : Ran → Tells
  of_counts : Counts → Tells
  of_corner : Result (Point × Point) Fault → Tells
  of_outline : Result ℕ Fault → Tells

-- a survey, and the buffer that outlines are read into
pub record Stand : Type 0 where
  pub survey : State
  pub buffer : List Point

abbrev pub stand : {A : Type 0} → Survey A → List Point → Stand
stand s b = record { survey = state s; buffer = b }

pub record Done : Type 0 where
  pub tells : Tells
  pub leaves : Stand

abbrev pub done : Tells → State → List Point → Done
done t s b = record { tells = t; leaves = record { survey = s; buffer = b } }

-- a reading changes nothing of the survey; an outline is read into the first n slots of the buffer
abbrev pub make : Meaning → Stand → Call → Done
make m d call.Probe = done (of_probe (probe m d.survey).says) (probe m d.survey).leaves d.buffer
make m d (call.Run budget) = done (of_run (run m budget d.survey).tells) (run m budget d.survey).leaves d.buffer
make m d call.Counts = done (of_counts (read_counts d.survey)) d.survey d.buffer
make m d (call.Corner i) = done (of_corner (read_corner d.survey i)) d.survey d.buffer
make m d (call.Outline n) =
    let o = read_outline d.survey (take n d.buffer) in
    done (of_outline o.tells) d.survey (o.buffer ++ drop n d.buffer)

-- ---- a list of calls

abbrev pub leaves_from : Meaning → Stand → List Call → Stand
leaves_from m d [] = d
leaves_from m d (c ∷ cs) = leaves_from m (make m d c).leaves cs

abbrev pub tells_from : Meaning → Stand → List Call → List Tells
tells_from m d [] = []
tells_from m d (c ∷ cs) = (make m d c).tells ∷ tells_from m (make m d c).leaves cs

-- a survey's opening, with a buffer that is lent for the outlines
abbrev pub opening : List Point → Stand
opening b = record { survey = opened; buffer = b }

-- the survey and the buffer after a list of calls from the opening
abbrev pub surveyed : Meaning → List Point → List Call → Stand
surveyed m b cs = leaves_from m (opening b) cs

-- all that these calls told, one after the other
abbrev pub all_told : Meaning → List Point → List Call → List Tells
all_told m b cs = tells_from m (opening b) cs

-- ---- the code's values, read

abbrev pub corner_told : Result Corner Fault → Result (Point × Point) Fault
corner_told (Ok c) = Ok (c.at, found_by c)
corner_told (Err f) = Err f

abbrev pub telling : Told → Tells
telling (told.Probe r) = of_probe r
telling (told.Run r) = of_run r
telling (told.Counts r) = of_counts r
telling (told.Corner r) = of_corner (corner_told r)
telling (told.Outline r) = of_outline r

-- the calls of a log, and what its entries hold of what these told
abbrev pub calls_of : List Entry → List Call
calls_of es = map (λ e. e.call) es

abbrev pub told_of : List Entry → List (Option Tells)
told_of es = map (λ e. option_map telling e.told) es

abbrev pub each_told : List Tells → List (Option Tells)
each_told ts = map (λ t. Some t) ts
