-- What is answered where there is no path.
use Rattle.std.proofs.Math.Option.{Option, none, some}
use Rattle.willow.specs.Paths.{Path}
use Rattle.willow.specs.Refusals.{Outcome, absent, value}

-- "None": there is no such path.
abbrev pub path_or : Option Path → Outcome Path
path_or none = absent
path_or (some p) = value p
