-- The printed text of counts, byte by byte.
use Rattle.std.specs.Prelude.{ℕ, List, ◌++◌, codes}
use Rattle.std.specs.Fmt.{decimal}
use Rattle.calls.specs.declared.Counts.{Counts}

abbrev pub counts_text : Counts → List ℕ
counts_text c = codes "corners " ++ decimal c.corners ++ codes " probes " ++ decimal c.probes
