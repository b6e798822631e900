-- The survey's rules, over what a body means.
use Rattle.std.specs.Prelude.{ℕ, zero, suc, ◌+◌, Bool, true, false, cond, ◌&&◌, List, [], ◌∷◌, map, length, Ok, Err, Result, nat_lt, slice_index_or}
use Rattle.std.specs.List.{insert}
use Rattle.plane.specs.declared.fault.Cause.TheVariants.{TooManyCorners}
use Rattle.plane.specs.declared.fault.Fault.{Fault}
use Rattle.plane.specs.declared.point.Point.{Point}
use Rattle.plane.specs.Directed.{directed, no_direction}
use Rattle.plane.specs.Fault.{fault}
use Rattle.plane.specs.Plane.{origin, east, west, normal, same, next}
use Rattle.body.specs.Meaning.{Meaning, answer}
use Rattle.calls.specs.declared.Said.{Said}
use Rattle.calls.specs.declared.Said.TheVariants.{Corner, Settled, Closed}
use Rattle.calls.specs.declared.Ended.{Ended}
use Rattle.calls.specs.declared.Ended.TheVariants as ended
use Rattle.calls.specs.declared.Ran.{Ran}

-- ---- the state

-- a corner, the direction that found it, and whether the edge from it to the next corner is settled
pub record Found : Type 0 where
  pub corner : Point
  pub asked : Point
  pub settled : Bool

-- what is found, counterclockwise, each with the edge that starts there; and how many probes were counted
pub record State : Type 0 where
  pub found : List Found
  pub probes : ℕ

abbrev pub opened : State
opened = record { found = []; probes = 0 }

abbrev pub corners : State → List Point
corners s = map (λ c. c.corner) s.found

abbrev pub all_settled : List Found → Bool
all_settled [] = true
all_settled (c ∷ cs) = c.settled && all_settled cs

abbrev pub closed_list : List Found → Bool
closed_list [] = false
closed_list (c ∷ cs) = all_settled (c ∷ cs)

-- something is found, and every edge is settled
abbrev pub closed : State → Bool
closed s = closed_list s.found

-- ---- what a probe asks

-- the number of the first open edge
abbrev pub first_open : List Found → ℕ
first_open [] = 0
first_open (c ∷ cs) = cond c.settled (suc (first_open cs)) 0

abbrev pub nothing : Found
nothing = record { corner = origin; asked = east; settled = false }

-- the two ends of edge i
abbrev pub edge_start : List Found → ℕ → Point
edge_start cs i = (slice_index_or cs i nothing).corner

abbrev pub edge_end : List Found → ℕ → Point
edge_end cs i = (slice_index_or cs (next (length cs) i) nothing).corner

-- at first one way along the x axis, then the other, and from then on outward from the first open edge
abbrev pub question : List Found → Point
question [] = east
question (c ∷ []) = west
question (c ∷ d ∷ cs) = let all = c ∷ d ∷ cs in normal (edge_start all (first_open all)) (edge_end all (first_open all))

-- ---- what a probe says and leaves

pub record Probed : Type 0 where
  pub says : Result Said Fault
  pub leaves : State

-- a refused probe changes nothing, nor does one on a closed survey
abbrev pub unchanged : State → Result Said Fault → Probed
unchanged s r = record { says = r; leaves = s }

-- the edge i is settled
abbrev pub settle : List Found → ℕ → List Found
settle [] i = []
settle (c ∷ cs) zero = record { corner = c.corner; asked = c.asked; settled = true } ∷ cs
settle (c ∷ cs) (suc i) = c ∷ settle cs i

abbrev pub settling : State → ℕ → Probed
settling s i = record { says = Ok Settled; leaves = record { found = settle s.found i; probes = s.probes + 1 } }

-- a new corner p, found by u, at place i, where there is room for it; the edges on both its sides are open
abbrev pub take_in : State → ℕ → Point → Point → Probed
take_in s i u p =
    cond (nat_lt (length s.found) 256)
    (record { says = Ok Corner; leaves = record { found = insert s.found i (record { corner = p; asked = u; settled = false }); probes = s.probes + 1 } })
    (unchanged s (Err (fault TooManyCorners 0)))

-- an answer p at the end of edge i settles it; any other becomes a corner between its ends
abbrev pub about_edge : State → ℕ → Point → Point → Probed
about_edge s i u p = cond (same p (edge_end s.found i)) (settling s i) (take_in s (i + 1) u p)

abbrev pub by_point : State → Point → Point → List Found → Probed
by_point s u p [] = take_in s 0 u p
by_point s u p (c ∷ cs) = about_edge s (first_open (c ∷ cs)) u p

abbrev pub by_answer : State → Point → Result Point Fault → Probed
by_answer s u (Ok p) = by_point s u p s.found
by_answer s u (Err f) = unchanged s (Err f)

-- two ends that make no direction refuse the probe
abbrev pub asks : Meaning → State → Point → Probed
asks m s u = cond (directed u) (by_answer s u (answer m u)) (unchanged s (Err no_direction))

abbrev pub probe : Meaning → State → Probed
probe m s = cond (closed s) (unchanged s (Ok Closed)) (asks m s (question s.found))

-- ---- a run with a budget

pub record Run : Type 0 where
  pub tells : Ran
  pub leaves : State

-- it ends on s, with no probe counted
abbrev pub ends : State → Ended → Run
ends s e = record { tells = record { made = 0; ended = e }; leaves = s }

abbrev pub one_more : Run → Run
one_more r = record { tells = record { made = r.tells.made + 1; ended = r.tells.ended }; leaves = r.leaves }

-- after a probe that said r on s, with what the rest of the run tells and leaves
abbrev pub follow : Result Said Fault → State → Run → Run
follow (Ok Corner) s rest = one_more rest
follow (Ok Settled) s rest = one_more rest
follow (Ok Closed) s rest = ends s ended.Closed
follow (Err f) s rest = ends s (ended.Refused f)

-- one probe after the other, while there is budget and each finds or settles something
abbrev pub run : Meaning → ℕ → State → Run
run m zero s = ends s (cond (closed s) ended.Closed ended.Spent)
run m (suc budget) s = follow (probe m s).says s (run m budget (probe m s).leaves)

-- a run long enough for any survey: each counted probe finds one of at most 256 corners or settles one of at most 256 edges
unfoldable pub until_closed : Meaning → Run
until_closed m = run m 512 opened
