-- The outline of the trolley on its way, by computing it from the definitions.
use Rattle.std.proofs.Common.{◌≡◌, ◌≤◌, ltb, List, ◌++◌, length, drop, Ok, ap}
use Rattle.std.proofs.lemmas.Bool.{cond-false, le-ltb}
use Rattle.plane.specs.declared.fault.Cause.TheVariants.{BufferTooShort}
use Rattle.plane.specs.declared.point.Point.{Point}
use Rattle.plane.specs.Fault.{fault}
use Rattle.survey.specs.Calls.{Outlined, no_outline}
use Rattle.survey.specs.Rules.{until_closed}
use Rattle.lemburat.specs.Outline.{counted, outline_of, counts_of}
use Rattle.lemburat.specs.Samples.{path, path_corners}

pub path_outlined : (b : List Point) → 10 ≤ length b → outline_of path b ≡ record { tells = Ok 10; buffer = path_corners ++ drop 10 b }
unfolding until_closed
path_outlined b h = cond-false (ltb (length b) 10) (no_outline (fault BufferTooShort 0) b) (record { tells = Ok 10; buffer = path_corners ++ drop 10 b }) (le-ltb (length b) 10 h)

pub path_counted : (b : List Point) → 10 ≤ length b → counts_of path b ≡ Ok (record { corners = 10; probes = 20 })
unfolding until_closed
path_counted b h = ap (λ (o : Outlined). counted o.tells (until_closed path).leaves) (path_outlined b h)
