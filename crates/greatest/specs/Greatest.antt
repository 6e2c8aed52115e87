-- What `new_max` gives (willow/specs/LeastPaths.antt says which path is the greatest).
use Rattle.willow.specs.declared.Limits.{Limits}
use Rattle.willow.specs.LeastPaths.{greatest}
use Rattle.willow.specs.Paths.{Path}
use Rattle.willow.specs.Refusals.{Outcome, value}
use Rattle.construction.specs.Making.{under_limits}

-- `new_max`: 1 for limits over the bounds, else the greatest valid path.
abbrev pub greatest_outcome : Limits → Outcome Path
greatest_outcome L = under_limits L (value (greatest L))
